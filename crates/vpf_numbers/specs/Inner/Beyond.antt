-- The lines on parts of another tile, by how many rows that tile has.
use Rattle.std.specs.Prelude.{ℕ, Bool, not, ◌&&◌, ◌==◌, is_some, Option, Some, None}
use Rattle.std.specs.Option.{unwrap_or}
use Rattle.vpf_value.specs.Values.{Value}
use Rattle.vpf_table.specs.Grid.{Row}
use Rattle.vpf_findings.specs.declared.finding.SeenWord.TheVariants as words
use Rattle.vpf_findings.specs.declared.finding.TableName.{TableName}
use Rattle.vpf_findings.specs.Findings.{CellSeen, RangeSeen, WordSeen, Disagreement}
use Rattle.vpf_findings.specs.Firsts.{◌or◌, unless}
use Rattle.vpf_prims.specs.declared.placing.TableAt.{TableAt}
use Rattle.vpf_prims.specs.Columns.{RoleAt, in_table}
use Rattle.vpf_prims.specs.References.{is_from}
use Rattle.vpf_numbers.specs.Around.{Around, count_in_tile, grid_named, rows_in, tables_around}
use Rattle.vpf_prims.specs.Reading.{PrimitiveTables}
use Rattle.vpf_numbers.specs.RowLines.{cross_lines, plain_wanted}

-- the two parts, where the other tile has so many rows; none where it has no tables
abbrev pub beyond_there : TableAt → (there : Option ℕ) → (low k : ℕ) → RoleAt → Value → (allowed : Bool) → (tile ext : Option ℕ) → Option Disagreement
beyond_there at there low k column cell allowed None None = None
beyond_there at there low k column cell allowed None (Some n) = Some (plain_wanted at k column cell)
beyond_there at there low k column cell allowed (Some t) None = Some (plain_wanted at k column cell)
beyond_there at there low k column cell allowed (Some t) (Some n) =
    unless allowed (plain_wanted at k column cell)
    or unless (not (t == at.tile) && is_some there) (in_table at 1 k column.name (CellSeen column.kind cell) (WordSeen words.Tile))
    or unless (is_from low (unwrap_or there 0) (Some n)) (in_table at 1 k column.name (CellSeen column.kind cell) (RangeSeen low (unwrap_or there 0)))

-- how many rows a tile has of the table of this name
abbrev pub rows_around : Around → TableName → ℕ → ℕ
rows_around A name t = count_in_tile (λ (tables : PrimitiveTables). rows_in (grid_named name tables)) (tables_around A t)

-- the lines on a reference that may go on in another tile, to a row of its table of this name
abbrev pub named_cross_lines : TableAt → Around → TableName → (last k : ℕ) → RoleAt → Row → Option Disagreement
named_cross_lines at A name last k column row = cross_lines at A (rows_around A name) last k column row
