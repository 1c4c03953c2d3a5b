-- Columns and roles that are looked at one after another.
use Rattle.std.proofs.Common.{◌≡◌, ℕ, ◌+◌, ◌<◌, true, false, Option, Some, None, List, ◌∷◌, length, map, drop, get_or, add-one, refl}
use Rattle.std.specs.Prelude.{slice_get}
use Rattle.std.proofs.Math.Seq.{drop-cons}
use Rattle.std.proofs.lemmas.Option.{get_or_from_slice_get}
use Rattle.vpf_head.specs.Head.{Col}
use Rattle.vpf_findings.specs.Findings.{Disagreement}
use Rattle.vpf_numbers.specs.ColumnLines.{carried_columns_finding, carried_lines, lacking_finding, named_line, role_lines, roles_finding}
use Rattle.vpf_prims.specs.declared.placing.TableAt.{TableAt}
use Rattle.vpf_prims.specs.declared.roles.Role.{Role as LentRole}
use Rattle.vpf_prims.specs.Roles.{Role, role_of}
use Rattle.vpf_prims.specs.Reading.{has_role}
use Rattle.vpf_prims.specs.Suiting.{carried_columns}

-- a column has no role
pub bare_found : (roles : List Role) (columns : List Col) (c : ℕ) (column : Col) → c < length columns → slice_get columns c ≡ Some column → has_role roles column ≡ false
    → carried_columns roles (drop c columns) ≡ column ∷ carried_columns roles (drop (c + 1) columns)
bare_found roles columns c column h is bare = rw (drop-cons columns c column, get_or_from_slice_get columns c column column is, bare, add-one) refl

-- a column has one
pub bare_passed : (roles : List Role) (columns : List Col) (c : ℕ) (column : Col) → c < length columns → slice_get columns c ≡ Some column → has_role roles column ≡ true
    → carried_columns roles (drop (c + 1) columns) ≡ carried_columns roles (drop c columns)
bare_passed roles columns c column h is has = rw (drop-cons columns c column, get_or_from_slice_get columns c column column is, has, add-one) refl

-- the lines on a column without a role say nothing
pub carried_left : (at : TableAt) (columns there : List Col) (column : Col) (rest : List Col) → carried_lines at columns there column ≡ None
    → carried_columns_finding at columns there rest ≡ carried_columns_finding at columns there (column ∷ rest)
carried_left at columns there column rest none = rw none refl

-- they say something
pub carried_stop : (at : TableAt) (columns there : List Col) (column : Col) (rest : List Col) (f : Disagreement) → carried_lines at columns there column ≡ Some f
    → carried_columns_finding at columns there (column ∷ rest) ≡ Some f
carried_stop at columns there column rest f some = rw some refl

-- the same of a column there
pub lacking_left : (at : TableAt) (columns there : List Col) (column : Col) (rest : List Col) → named_line at columns there column.name ≡ None
    → lacking_finding at columns there rest ≡ lacking_finding at columns there (column ∷ rest)
lacking_left at columns there column rest none = rw none refl

pub lacking_stop : (at : TableAt) (columns there : List Col) (column : Col) (rest : List Col) (f : Disagreement) → named_line at columns there column.name ≡ Some f
    → lacking_finding at columns there (column ∷ rest) ≡ Some f
lacking_stop at columns there column rest f some = rw some refl

-- a role is passed, or it is the first with a finding
pub roles_left : (at : TableAt) (columns : List Col) (model : Option (List Col)) (roles : List LentRole) (i : ℕ) (d : LentRole) → i < length roles → role_lines at columns model (role_of (get_or roles i d)) ≡ None
    → roles_finding at columns model (map role_of (drop (i + 1) roles)) ≡ roles_finding at columns model (map role_of (drop i roles))
roles_left at columns model roles i d h none = rw (drop-cons roles i d, none, add-one) refl

pub roles_stop : (at : TableAt) (columns : List Col) (model : Option (List Col)) (roles : List LentRole) (i : ℕ) (d : LentRole) (f : Disagreement) → i < length roles → role_lines at columns model (role_of (get_or roles i d)) ≡ Some f
    → roles_finding at columns model (map role_of (drop i roles)) ≡ Some f
roles_stop at columns model roles i d f h some = rw (drop-cons roles i d, some) refl
