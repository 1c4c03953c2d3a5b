-- A table has no finding exactly where it is a table of tiles, and nothing ends its reading exactly where it is one within the bounds.
use Rattle.std.proofs.Common.{[], ◌≡◌, ℕ, ◌≤◌, Bool, true, false, Option, Some, None, List, ◌∷◌, length, refl, sym, subst, arith}
use Rattle.std.specs.Prelude.{◌↔◌, ◌&&◌, not, nat_le, All}
use Rattle.std.specs.Option.{option_map}
use Rattle.std.proofs.lemmas.Bool.Decides.{nat_tests}
use Rattle.std.proofs.lemmas.List.Elements.{All-nil, All-cons, All-head, All-tail}
use Rattle.vpf_base.specs.Limits.{longest_name}
use Rattle.vpf_table.specs.Grid.{Row, Grid}
use Rattle.vpf_prims.specs.Columns.{RoleAt, id_column}
use Rattle.vpf_prims.specs.Lines.{id_line}
use Rattle.vpf_prims.specs.Lists.{kth}
use Rattle.vpf_prims.specs.Numbering.{IsRowOf}
use Rattle.vpf_prims.specs.Reading.{natural_in}
use Rattle.vpf_prims.specs.References.{cell_at}
use Rattle.vpf_library_files.specs.Tileref.Paths.{TilePath, is_path, IsPath}
use Rattle.vpf_library_files.specs.Tileref.Numbered.{most_tiles}
use Rattle.vpf_library_files.specs.Tileref.Tileref.{is_taken, name_column, paths_of, row_path, path_line, tile_columns_finding, tile_row_lines, tile_rows_finding, tileref_finding}
use Rattle.vpf_library_files.specs.Tileref.Bounds.{length_bound, lengths_bound, rows_bound}
use Rattle.vpf_library_files.specs.Tileref.Stops.{path_texts, tileref_stop, LimitStop, FindingStop}
use Rattle.vpf_library_files.specs.Inner.Tileref.Laws.{TilerefDecides, StopsDecide}
use Rattle.vpf_library_files.specs.Inner.Tileref.PathLaws.{path_decides}
use Rattle.vpf_library_files.proofs.tileref.LawLines.{paired, neither_line, unless_passes, columns_suit, id_is, rows_by_number}
use Rattle.vpf_base.proofs.Booleans.{through}
use Rattle.vpf_library_files.proofs.tileref.LawApart.{free_decides, kth-map}
use Rattle.vpf_library_files.specs.Inner.Tileref.CountLaws.{paths_counted as counted}

same_fact : {P : Type 0} → P ↔ P
same_fact = (λ p. p, λ p. p)

-- one test holds, and another doesn't
and_not : (a b : Bool) → ((a && not b) ≡ true) ↔ ((a ≡ true) × (b ≡ false))
and_not true false = (λ h. (refl, refl), λ h. refl)
and_not true true = (λ h. absurd cc, λ h. absurd (let e = h.1 in cc))
and_not false b = (λ h. absurd cc, λ h. absurd (let e = h.0 in cc))

-- the line on the name in row k
path_is : (column : RoleAt) (paths : List TilePath) (k : ℕ) (row : Row)
    → (path_line column paths k row ≡ None) ↔ (IsPath (row_path column row) × (is_taken paths k (row_path column row) ≡ false))
path_is column paths k row =
    let path = row_path column row in
    through (unless_passes (is_path path && not (is_taken paths k path)) _)
    (through (and_not (is_path path) (is_taken paths k path)) (paired (path_decides path) same_fact))

-- the lines on row k
row_is : (id name : RoleAt) (paths : List TilePath) (k : ℕ) (row : Row) → 1 ≤ k
    → (tile_row_lines id name paths k row ≡ None)
    ↔ ((natural_in (cell_at row id.place) ≡ Some k) × (IsPath (row_path name row) × (is_taken paths k (row_path name row) ≡ false)))
row_is id name paths k row low =
    through (neither_line (id_line _ k id row) (path_line name paths k row)) (paired (id_is k id row low) (path_is name paths k row))

-- what is so of row k
abbrev IsTileRow : Grid → ℕ → Type 0
IsTileRow grid k =
    (natural_in (cell_at (kth grid.rows k []) (id_column grid.head.columns).place) ≡ Some k)
    × (IsPath (kth (paths_of grid) k []) × (is_taken (paths_of grid) k (kth (paths_of grid) k []) ≡ false))

-- the lines on all rows
rows_are : (grid : Grid)
    → (tile_rows_finding (id_column grid.head.columns) (name_column grid.head.columns) grid.rows ≡ None)
    ↔ ((k : ℕ) → IsRowOf (length grid.rows) k → IsTileRow grid k)
rows_are grid =
    let id = id_column grid.head.columns in
    let name = name_column grid.head.columns in
    let paths = paths_of grid in
    let is_id : ℕ → Type 0 = λ (k : ℕ). natural_in (cell_at (kth grid.rows k []) id.place) ≡ Some k in
    let P : ℕ → TilePath → Type 0 = λ (k : ℕ) (path : TilePath). is_id k × (IsPath path × (is_taken paths k path ≡ false)) in
    through (rows_by_number (tile_row_lines id name paths) grid.rows []) (
      λ h k l. subst (P k) (sym (kth-map (row_path name) grid.rows k [] [] l)) ((row_is id name paths k (kth grid.rows k []) l.0).0 (h k l)),
      λ h k l. (row_is id name paths k (kth grid.rows k []) l.0).1 (subst (P k) (kth-map (row_path name) grid.rows k [] [] l) (h k l)),
    )

pub tileref_decides : TilerefDecides
unfolding tileref_finding
tileref_decides grid =
    let n = counted grid in
    let row : (k : ℕ) → IsRowOf (length (paths_of grid)) k → IsRowOf (length grid.rows) k = λ k l. (l.0, subst (λ (m : ℕ). k ≤ m) n l.1) in
    let of_row : (k : ℕ) → IsRowOf (length grid.rows) k → IsRowOf (length (paths_of grid)) k = λ k l. (l.0, subst (λ (m : ℕ). k ≤ m) (sym n) l.1) in
    let free = free_decides (paths_of grid) in
    through (neither_line (tile_columns_finding grid.head.columns grid.rows) _)
    (through (paired (columns_suit grid.head.columns grid.rows) (rows_are grid)) (
      λ h. record {
        columns = h.0.0;
        some = h.0.1;
        ids = λ k l. (h.1 k l).0;
        paths = λ k l. (h.1 k l).1.0;
        apart = λ j k a b. free.0 (λ i l. (h.1 i (row i l)).1.1) j k (of_row j a) (of_row k b);
      },
      λ t. (
        (t.columns, t.some),
        λ k l. (t.ids k l, (t.paths k l, free.1 (λ i j a b. t.apart i j (row i a) (row j b)) k (of_row k l))),
      ),
    ))

-- what is said of some is said of none exactly where there is nothing
mapped_none : {A B : Type 0} (f : A → B) (o : Option A) → (option_map f o ≡ None) ↔ (o ≡ None)
mapped_none f None = (λ h. refl, λ h. refl)
mapped_none f (Some x) = (λ h. absurd cc, λ h. absurd cc)

at_most : (a b : ℕ) → (nat_le a b ≡ true) ↔ (a ≤ b)
at_most a b = (λ h. grind (arith, nat_tests), λ h. grind (arith, nat_tests))

-- the bound of rows, and that of paths
few_rows : (rows : ℕ) → (option_map LimitStop (rows_bound rows) ≡ None) ↔ (rows ≤ most_tiles)
few_rows rows = through (mapped_none LimitStop (rows_bound rows)) (through (unless_passes (nat_le rows most_tiles) _) (at_most rows most_tiles))

abbrev IsShort : List ℕ → Type 0
IsShort text = length text ≤ longest_name

short_texts : (texts : List (List ℕ)) → (lengths_bound texts ≡ None) ↔ All IsShort texts
short_texts [] = (λ h. All-nil IsShort, λ h. refl)
short_texts (text ∷ texts) =
    through (neither_line (length_bound text) (lengths_bound texts))
    (through (paired (through (unless_passes (nat_le (length text) longest_name) _) (at_most (length text) longest_name)) (short_texts texts))
    (λ h. All-cons IsShort text texts h.0 h.1, λ h. (All-head IsShort text texts h, All-tail IsShort text texts h)))

pub stops_decide : StopsDecide
unfolding tileref_stop
stops_decide grid =
    through (neither_line (option_map LimitStop (rows_bound (length grid.rows))) _)
    (through (paired (few_rows (length grid.rows)) (through (neither_line (option_map FindingStop (tileref_finding grid)) _)
    (paired (through (mapped_none FindingStop (tileref_finding grid)) (tileref_decides grid))
    (through (mapped_none LimitStop (lengths_bound (path_texts grid))) (short_texts (path_texts grid))))))
    (λ h. (h.1.0, record { few = h.0; short = h.1.1 }), λ h. (h.1.few, (h.0, h.1.short))))
