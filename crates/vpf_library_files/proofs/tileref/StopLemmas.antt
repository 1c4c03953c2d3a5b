-- What ends the reading of the table of tiles, step by step.
use Rattle.std.proofs.Common.{◌≡◌, ℕ, Some, None, List, length, map, refl, ap, sym, ◌∙◌}
use Rattle.std.specs.Prelude.{codes}
use Rattle.std.proofs.lemmas.List.{length-map}
use Rattle.vpf_table.specs.Grid.{Grid}
use Rattle.vpf_table.specs.declared.limit.Limit.{Limit}
use Rattle.vpf_prims.specs.declared.placing.RoleColumn.{RoleColumn}
use Rattle.vpf_prims.specs.Columns.{RoleAt, role_at}
use Rattle.vpf_prims.specs.Inner.Placed.{IsColumnOf}
use Rattle.vpf_prims.specs.Roles.{number_role, text_role}
use Rattle.vpf_library_files.specs.Tileref.Paths.{path_text}
use Rattle.vpf_library_files.specs.Tileref.Bounds.{lengths_bound, rows_bound}
use Rattle.vpf_library_files.specs.Tileref.Tileref.{row_path, tile_columns_finding, tile_rows_finding, tileref_finding}
use Rattle.vpf_library_files.specs.Tileref.Stops.{path_texts, tileref_stop, LimitStop}

-- neither the columns nor the rows have a finding
pub no_finding : (grid : Grid) (id name : RoleColumn)
    → IsColumnOf grid.head.columns (number_role (codes "id")) id → IsColumnOf grid.head.columns (text_role (codes "tile_name")) name
    → tile_columns_finding grid.head.columns grid.rows ≡ None → tile_rows_finding (role_at id) (role_at name) grid.rows ≡ None → tileref_finding grid ≡ None
unfolding tileref_finding
no_finding grid id name a b columns rows = rw (columns, ← a.is, ← b.is) rows

-- the texts of the paths in the column of names
pub texts_are : (grid : Grid) (name : RoleColumn) (texts : List (List ℕ)) → IsColumnOf grid.head.columns (text_role (codes "tile_name")) name
    → texts ≡ map path_text (map (row_path (role_at name)) grid.rows) → texts ≡ path_texts grid
texts_are grid name texts is are = are ∙ ap (λ (column : RoleAt). map path_text (map (row_path column) grid.rows)) is.is

-- there are as many as there are rows
pub texts_count : (grid : Grid) (name : RoleAt) {S : Type 0} (text : S → List ℕ) (keys : List S)
    → map text keys ≡ map path_text (map (row_path name) grid.rows) → length keys ≡ length grid.rows
texts_count grid name text keys are =
    sym (length-map keys text) ∙ ap length are ∙ length-map (map (row_path name) grid.rows) path_text ∙ length-map grid.rows (row_path name)

-- nothing is found, and no bound is passed
pub nothing_stops : (grid : Grid)
    → rows_bound (length grid.rows) ≡ None → tileref_finding grid ≡ None → lengths_bound (path_texts grid) ≡ None → tileref_stop grid ≡ None
unfolding tileref_stop
nothing_stops grid few none short = rw (few, none, short) refl

-- a path is too long, and nothing else comes before
pub length_stops : (grid : Grid) (limit : Limit)
    → rows_bound (length grid.rows) ≡ None → tileref_finding grid ≡ None → lengths_bound (path_texts grid) ≡ Some limit
    → tileref_stop grid ≡ Some (LimitStop limit)
unfolding tileref_stop
length_stops grid limit few none long = rw (few, none, long) refl
