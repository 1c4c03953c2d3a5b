-- The edges of a table by their numbers, row by row.
use Rattle.std.proofs.Common.{◌≡◌, ℕ, List, [], ◌∷◌, map, refl, ap}
use Rattle.vpf_table.specs.Head.{Col}
use Rattle.vpf_table.specs.Grid.{Row}
use Rattle.vpf_prims.specs.declared.placing.TableAt.{TableAt}
use Rattle.vpf_prims.specs.declared.rows.Edge.{Edge}
use Rattle.vpf_prims.specs.Edges.{AreWithin, EdgesAt, edge_columns, edge_of, moved_to, own_numbers}
use Rattle.vpf_prims.specs.Primitives.{EdgePrimitive, edge_row_of, own_edge}
use Rattle.vpf_prims.specs.Reading.{edge_in_row}

-- the numbers of rows are those of the edges that they say
pub own_rows : (at : TableAt) (columns : List Col) (rows : List Row) → map (edge_of (edge_columns at columns)) rows ≡ map own_edge (map (edge_in_row columns) rows)
own_rows at columns [] = refl
own_rows at columns (row ∷ rows) = ap (λ (edges : List Edge). edge_of (edge_columns at columns) row ∷ edges) (own_rows at columns rows)

-- the same by columns that are known
pub own_all : (at : TableAt) (columns : List Col) (kept : EdgesAt) (edges : List Edge) (rows : List Row) → kept ≡ edge_columns at columns → edges ≡ map (edge_of kept) rows → edges ≡ map own_edge (map (edge_in_row columns) rows)
own_all at columns kept edges rows is done = rw (is, own_rows) at done

-- the same of what rows say
pub own_kept : (edges : List EdgePrimitive) → map own_numbers (map edge_row_of edges) ≡ map own_edge edges
own_kept [] = refl
own_kept (edge ∷ edges) = ap (λ (others : List Edge). own_edge edge ∷ others) (own_kept edges)

-- the columns stand where they do, whatever table is looked at
pub within_moved : (at : TableAt) (width : ℕ) (columns : EdgesAt) → AreWithin width columns → AreWithin width (moved_to at columns)
within_moved at width columns h = record {
  id = h.id;
  start_node = h.start_node;
  end_node = h.end_node;
  right_face = h.right_face;
  left_face = h.left_face;
  right_edge = h.right_edge;
  left_edge = h.left_edge;
  tile_line = h.tile_line;
}
