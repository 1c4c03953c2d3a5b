-- The edge of a row by its number, as it is read and as it is said.
use Rattle.std.proofs.Common.{◌≡◌, ℕ, zero, suc, ◌<◌, ◌-◌, pos, negsuc, Option, Some, None, List, [], ◌∷◌, length, map, get_or, refl, ap, ◌∙◌, arith}
use Rattle.std.specs.Prelude.{slice_index_or}
use Rattle.std.proofs.lemmas.List.{length-map}
use Rattle.vpf_value.specs.Values.{Value, NumberOf, Nothing}
use Rattle.vpf_table.specs.Head.{Col}
use Rattle.vpf_table.specs.Grid.{Row}
use Rattle.vpf_prims.specs.declared.placing.TableAt.{TableAt}
use Rattle.vpf_prims.specs.declared.rows.EdgeRow.{EdgeRow}
use Rattle.vpf_prims.specs.Edges.{EdgesAt, edge_columns, edge_row}
use Rattle.vpf_prims.specs.Lists.{kth}
use Rattle.vpf_prims.specs.Numbering.{IsRowOf}
use Rattle.vpf_prims.specs.Primitives.{EdgePrimitive, absent_edge, edge_row_of, is_tile_line}
use Rattle.vpf_prims.specs.Reading.{edge_in_row, mark_at, natural_in}
use Rattle.vpf_prims.specs.References.{cell_at, is_line}

line_in : (v : Value) → is_line v ≡ is_tile_line (natural_in v)
line_in (NumberOf (pos n)) = refl
line_in (NumberOf (negsuc n)) = refl
line_in v = search

line_at : (row : Row) (place : Option ℕ) → is_line (cell_at row place) ≡ is_tile_line (mark_at row place)
line_at row None = refl
line_at row (Some c) = line_in (slice_index_or row c Nothing)

row_said : (at : TableAt) (columns : List Col) (row : Row) → edge_row (edge_columns at columns) row ≡ edge_row_of (edge_in_row columns row)
row_said at columns row = rw (line_at row (edge_columns at columns).tile_line.place) refl

-- all rows so
pub rows_said : (at : TableAt) (columns : List Col) (rows : List Row) → map (edge_row (edge_columns at columns)) rows ≡ map edge_row_of (map (edge_in_row columns) rows)
rows_said at columns [] = refl
rows_said at columns (row ∷ rows) = rw (row_said at columns row, rows_said at columns rows) refl

-- the same of what is kept, by columns that are known
pub kept_said : (at : TableAt) (columns : List Col) (known : EdgesAt) (said : List EdgeRow) (rows : List Row) → known ≡ edge_columns at columns → said ≡ map (edge_row known) rows
    → said ≡ map edge_row_of (map (edge_in_row columns) rows)
kept_said at columns known said rows is kept = kept ∙ ap (λ (c : EdgesAt). map (edge_row c) rows) is ∙ rows_said at columns rows

rows_at : (at : TableAt) (columns : List Col) (rows : List Row) (i : ℕ) → i < length rows
    → edge_row (edge_columns at columns) (get_or rows i []) ≡ edge_row_of (get_or (map (edge_in_row columns) rows) i absent_edge)
rows_at at columns [] i h = absurd (omega arith)
rows_at at columns (row ∷ rows) zero h = row_said at columns row
rows_at at columns (row ∷ rows) (suc i) h = rows_at at columns rows i (omega arith)

-- edge k of a table as its row is read
pub edge_at : (at : TableAt) (columns : List Col) (rows : List Row) (k : ℕ) → IsRowOf (length (map (edge_in_row columns) rows)) k
    → edge_row (edge_columns at columns) (kth rows k []) ≡ edge_row_of (kth (map (edge_in_row columns) rows) k absent_edge)
edge_at at columns rows zero in' = absurd (omega (arith, in'.0))
edge_at at columns rows (suc i) in' = let count = length-map rows (edge_in_row columns) in rows_at at columns rows i (omega (arith, in'.1, count))

place_at : (edges : List EdgePrimitive) (i : ℕ) (d : EdgeRow) → i < length edges → get_or (map edge_row_of edges) i d ≡ edge_row_of (get_or edges i absent_edge)
place_at [] i d h = absurd (omega arith)
place_at (edge ∷ edges) zero d h = refl
place_at (edge ∷ edges) (suc i) d h = place_at edges i d (omega arith)

-- edge k among those that are kept
pub said_at : (said : List EdgeRow) (edges : List EdgePrimitive) (k : ℕ) (found : EdgeRow) → said ≡ map edge_row_of edges → IsRowOf (length edges) k
    → found ≡ get_or said (k - 1) found → found ≡ edge_row_of (kth edges k absent_edge)
said_at said edges zero found is in' at = absurd (omega (arith, in'.0))
said_at said edges (suc i) found is in' at =
    let one : suc i - 1 ≡ i = omega arith in
    at ∙ ap (λ (n : ℕ). get_or said n found) one ∙ ap (λ (rows : List EdgeRow). get_or rows i found) is ∙ place_at edges i found (omega (arith, in'.1))
