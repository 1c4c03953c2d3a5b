-- Findings on the columns of tiles, one after another.
use Rattle.std.proofs.Common.{◌≡◌, Option, None, Err, List, [], ◌∷◌, map, refl}
use Rattle.vpf_head.specs.Head.{Col}
use Rattle.vpf_findings.specs.declared.errors.FindError.{FindError}
use Rattle.vpf_findings.specs.declared.errors.FindError.TheVariants as errors
use Rattle.vpf_findings.specs.Findings.{Disagreement}
use Rattle.vpf_findings.specs.Firsts.{◌or◌, Tells}
use Rattle.vpf_findings.specs.Inner.FirstLaws.{or-none}
use Rattle.vpf_prims.specs.declared.roles.Role.{Role as LentRole}
use Rattle.vpf_prims.specs.Columns.{columns_finding, role_line}
use Rattle.vpf_prims.specs.Roles.{role_of}
use Rattle.vpf_library_files.specs.Tileref.Tileref.{tileref_at}

-- what stops a call at the first of two lines stops it at the first of both
pub stops_first : (e : FindError) (a b : Option Disagreement) → Tells {V = Unit {0}} (Err e) a → Tells {V = Unit {0}} (Err e) (a or b)
stops_first (errors.Finding f) a b some = rw some refl
stops_first errors.NoMemory a b h = tt

-- the same at the second, where the first says nothing
pub stops_later : (e : FindError) (a b : Option Disagreement) → a ≡ None → Tells {V = Unit {0}} (Err e) b → Tells {V = Unit {0}} (Err e) (a or b)
stops_later e a b none h = rw none h

-- the only role is looked at
pub stops_alone : (e : FindError) (columns : List Col) (role : LentRole) (roles : List LentRole)
    → roles ≡ role ∷ [] → Tells {V = Unit {0}} (Err e) (columns_finding tileref_at columns (map role_of roles))
    → Tells {V = Unit {0}} (Err e) (role_line tileref_at columns (role_of role))
stops_alone e columns role roles are h = rw (are, or-none) at h
