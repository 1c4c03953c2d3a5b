-- The columns of the tables of a coverage: those with a role are there and of a kind that the role allows.
use Rattle.std.specs.Prelude.{◌≡◌, true, not, List, [], Option, Some, None, filter}
use Rattle.std.specs.List.{AllByRecursion}
use Rattle.vpf_table.specs.Head.{Col}
use Rattle.vpf_table.specs.Grid.{Grid}
use Rattle.vpf_prims.specs.Roles.{Role, suits, edge_roles, face_roles, ring_roles, node_roles, entity_roles}
use Rattle.vpf_prims.specs.Columns.{column_of}
use Rattle.vpf_prims.specs.Reading.{PrimitiveTables, has_role}

-- the column of a role is of a kind that the role allows, or it may be left out
abbrev pub SuitsRole : Role → Option Col → Type 0
SuitsRole role None = role.optional ≡ true
SuitsRole role (Some column) = suits role.wants column.kind ≡ true

-- all columns with a role are there and of their kinds
abbrev pub HasRoles : List Role → Grid → Type 0
HasRoles roles grid = AllByRecursion (λ role. SuitsRole role (column_of grid.head.columns role.name)) roles

-- the columns without a role
abbrev pub carried_columns : List Role → List Col → List Col
carried_columns roles columns = filter (λ column. not (has_role roles column)) columns

-- the tables of a tile have their columns, and rings carry none
pub record HasColumns (t : PrimitiveTables) : Type 0 where
  pub edg : HasRoles edge_roles t.edg
  pub fac : HasRoles face_roles t.fac
  pub rng : HasRoles ring_roles t.rng
  pub cnd : HasRoles node_roles t.cnd
  pub end : (grid : Grid) → t.end ≡ Some grid → HasRoles entity_roles grid
  pub bare : carried_columns ring_roles t.rng.head.columns ≡ []
