-- A column of the code against the column of a role.
use Rattle.std.specs.Prelude.{◌≡◌, List, length}
use Rattle.vpf_table.specs.Head.{Col}
use Rattle.vpf_prims.specs.declared.placing.RoleColumn.{RoleColumn}
use Rattle.vpf_prims.specs.Roles.{Role}
use Rattle.vpf_prims.specs.Columns.{IsWithin, role_at, role_column}

-- it is the column of this role among these columns
pub record IsColumnOf (columns : List Col) (role : Role) (column : RoleColumn) : Type 0 where
  pub is : role_at column ≡ role_column columns role
  pub within : IsWithin (length columns) (role_at column)
