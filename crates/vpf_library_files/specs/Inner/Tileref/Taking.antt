-- Rows of tiles, looked at one after another by the texts of the paths before.
use Rattle.std.specs.Prelude.{ℕ, ◌&&◌, Bool, not, List, Option}
use Rattle.std.specs.List.{list_any}
use Rattle.std.specs.Str.{bytes_eq}
use Rattle.vpf_table.specs.Grid.{Row}
use Rattle.vpf_findings.specs.declared.finding.SeenWord.TheVariants as words
use Rattle.vpf_findings.specs.Findings.{CellSeen, WordSeen, Disagreement}
use Rattle.vpf_findings.specs.Firsts.{◌or◌, unless}
use Rattle.vpf_prims.specs.Columns.{RoleAt, in_table}
use Rattle.vpf_prims.specs.Lines.{id_line}
use Rattle.vpf_prims.specs.References.{cell_at}
use Rattle.vpf_library_files.specs.Tileref.Paths.{TilePath, is_path, path_text}
use Rattle.vpf_library_files.specs.Tileref.Tileref.{row_path, tileref_at}

-- a path, of which none of these is the text
abbrev pub is_new : List (List ℕ) → TilePath → Bool
is_new texts path = is_path path && not (list_any (bytes_eq (path_text path)) texts)

-- the line on the name in row k
abbrev pub name_line : RoleAt → List (List ℕ) → ℕ → Row → Option Disagreement
name_line column texts k row =
    unless (is_new texts (row_path column row))
    (in_table tileref_at 1 k column.name (CellSeen column.kind (cell_at row column.place)) (WordSeen words.Path))

-- the lines on row k, by the columns of ids and names
abbrev pub next_tile_lines : (id name : RoleAt) → List (List ℕ) → ℕ → Row → Option Disagreement
next_tile_lines id name texts k row = id_line tileref_at k id row or name_line name texts k row
