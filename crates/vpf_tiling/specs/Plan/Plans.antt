-- A plan: a table that names a tile for each face of a coverage that isn't tiled yet, and what disagrees in its columns first.
use Rattle.std.specs.Prelude.{List, Option, codes}
use Rattle.vpf_head.specs.Head.{Col}
use Rattle.vpf_table.specs.Grid.{Grid}
use Rattle.vpf_findings.specs.declared.finding.TableName.TheVariants as names
use Rattle.vpf_findings.specs.Findings.{Disagreement}
use Rattle.vpf_prims.specs.declared.placing.TableAt.{TableAt}
use Rattle.vpf_prims.specs.Columns.{RoleAt, columns_finding, role_column}
use Rattle.vpf_prims.specs.Roles.{number_role, plan_roles}
use Rattle.vpf_prims.specs.Suiting.{HasRoles}

-- where findings are: in no tile, and in the file in hand
abbrev pub plan_at : TableAt
plan_at = record { tile = 0; table = names.Plan; file = 0 }

-- the column of the numbers of tiles
abbrev pub tile_column : List Col → RoleAt
tile_column columns = role_column columns (number_role (codes "tile_id"))

-- the first finding on a plan, which is looked at in its columns alone: its ids name faces, in any order and as often as may be
abbrev pub plan_finding : Grid → Option Disagreement
plan_finding grid = columns_finding plan_at grid.head.columns plan_roles

-- a plan: it has its columns
abbrev pub IsPlanTable : Grid → Type 0
IsPlanTable grid = HasRoles plan_roles grid
