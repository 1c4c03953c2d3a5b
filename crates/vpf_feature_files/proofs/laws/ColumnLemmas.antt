-- There is no finding on the columns of a table exactly where it is a schema table.
use Rattle.std.proofs.Common.{◌≡◌, Bool, true, false, Option, Some, None, List, [], ◌∷◌, refl}
use Rattle.std.specs.List.{AllByRecursion}
use Rattle.vpf_head.specs.Head.{Col}
use Rattle.vpf_findings.specs.Firsts.{unless}
use Rattle.vpf_findings.specs.Inner.FirstLaws.{or-none_both}
use Rattle.vpf_prims.specs.Columns.{column_of, columns_finding, placed_line, role_line}
use Rattle.vpf_prims.specs.Roles.{Role, class_roles, suits}
use Rattle.vpf_prims.specs.Suiting.{SuitsRole}
use Rattle.vpf_feature_files.specs.Inner.Laws.{ClassSchemasDecide}
use Rattle.vpf_feature_files.specs.SchemaRows.Joins.{schema_at}

-- a line that is said unless a test passes
silent_passes : {F : Type 0} (f : F) (test : Bool) → unless test f ≡ None → test ≡ true
silent_passes f true e = refl
silent_passes f false e = absurd cc

-- the column of one role
silent_suits : (column : Option Col) (role : Role) → placed_line schema_at role column ≡ None → SuitsRole role column
silent_suits None role e = silent_passes _ role.optional e
silent_suits (Some column) role e = silent_passes _ (suits role.wants column.kind) e

suits_silent : (column : Option Col) (role : Role) → SuitsRole role column → placed_line schema_at role column ≡ None
suits_silent None role h = rw h refl
suits_silent (Some column) role h = rw h refl

-- those of some roles
abbrev HaveRoles : List Role → List Col → Type 0
HaveRoles roles columns = AllByRecursion (λ (role : Role). SuitsRole role (column_of columns role.name)) roles

silent_all : (roles : List Role) (columns : List Col) → columns_finding schema_at columns roles ≡ None → HaveRoles roles columns
silent_all [] columns e = tt
silent_all (role ∷ roles) columns e =
    let both = or-none_both (role_line schema_at columns role) (columns_finding schema_at columns roles) e in
    (silent_suits (column_of columns role.name) role both.0, silent_all roles columns both.1)

all_silent : (roles : List Role) (columns : List Col) → HaveRoles roles columns → columns_finding schema_at columns roles ≡ None
all_silent [] columns h = refl
all_silent (role ∷ roles) columns h = rw (suits_silent (column_of columns role.name) role h.0) (all_silent roles columns h.1)

pub class_schemas_decide : ClassSchemasDecide
class_schemas_decide grid = (silent_all class_roles grid.head.columns, all_silent class_roles grid.head.columns)
