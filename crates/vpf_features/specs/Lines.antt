-- What disagrees in a feature table: its column of ids, and the ids of its rows (MIL-STD-2407, 5.2.3, feature classes).
use Rattle.std.specs.Prelude.{ℕ, List, Option}
use Rattle.vpf_head.specs.Head.{Col}
use Rattle.vpf_table.specs.Grid.{Row, Grid}
use Rattle.vpf_findings.specs.declared.finding.TableName.TheVariants as names
use Rattle.vpf_findings.specs.Findings.{Disagreement}
use Rattle.vpf_findings.specs.Firsts.{◌or◌, first_of_rows}
use Rattle.vpf_prims.specs.declared.placing.TableAt.{TableAt}
use Rattle.vpf_prims.specs.Columns.{columns_finding, id_column}
use Rattle.vpf_prims.specs.Lines.{id_line}
use Rattle.vpf_prims.specs.Roles.{feature_roles}

-- where findings are: in no tile, and in the file in hand
abbrev pub feature_at : TableAt
feature_at = record { tile = 0; table = names.Feature; file = 0 }

-- the line on row k: features are numbered from 1
abbrev pub feature_row_line : List Col → ℕ → Row → Option Disagreement
feature_row_line columns k row = id_line feature_at k (id_column columns) row

-- the first finding on a feature table, apart from its indexes
abbrev pub feature_finding : Grid → Option Disagreement
feature_finding grid =
    columns_finding feature_at grid.head.columns feature_roles
    or first_of_rows (feature_row_line grid.head.columns) 1 grid.rows
