use Rattle.std.proofs.Common.{◌≡◌, ◌+◌, length, map, take, drop, true}
use Rattle.std.specs.Prelude.{All}
use Rattle.std.specs.List.{list_all}
use Rattle.vpf_findings.specs.Firsts.{first_of_rows}
use Rattle.vpf_prims.specs.Columns.{role_at}
use Rattle.vpf_library_files.specs.Tileref.Paths.{is_path, path_text}
use Rattle.vpf_library_files.specs.Inner.Tileref.Texts.{texts_in}
use Rattle.vpf_library_files.specs.Tileref.Tileref.{row_path, tile_row_lines, tile_rows_finding}
use Rattle.vpf_library_files.proofs.tileref.rows.paths_of.Given as goal

abbrev pub invariant-loop-row : goal.invariant-loop-row
invariant-loop-row l = record {
  left : first_of_rows (tile_row_lines (role_at l.columns.id) (role_at l.columns.name) (map (row_path (role_at l.columns.name)) l.table.rows))
      (l.k + 1) l.row-iterator ≡ tile_rows_finding (role_at l.columns.id) (role_at l.columns.name) l.table.rows;
  rest : l.row-iterator ≡ drop l.k l.table.rows;
  put : texts_in l.paths ≡ map path_text (take l.k (map (row_path (role_at l.columns.name)) l.table.rows));
  paths : list_all is_path (take l.k (map (row_path (role_at l.columns.name)) l.table.rows)) ≡ true;
  width : All (λ row. length row ≡ length l.table.head.columns) l.row-iterator;
  count : l.k + length l.row-iterator ≡ length l.table.rows;
}
