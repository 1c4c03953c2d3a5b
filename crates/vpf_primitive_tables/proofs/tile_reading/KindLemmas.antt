-- Columns with new kinds: they have the roles that they had, where the new kinds are such as the roles allow.
use Rattle.std.proofs.Common.{[], ◌≡◌, ℕ, ◌+◌, Bool, true, false, cond, not, List, ◌∷◌, map, slice_get, IfSome, Option, Some, None, refl, sym, subst, arith}
use Rattle.std.specs.List.{AllByRecursion, enumerate_from}
use Rattle.std.specs.Option.{option_map, option_and_then, unwrap_or}
use Rattle.vpf_triplet.specs.declared.kinds.Kind.{Kind}
use Rattle.vpf_head.specs.Head.{Col, place_of}
use Rattle.vpf_write.specs.declared.revise.changes.NewKind.{NewKind}
use Rattle.vpf_write.specs.Revise.Revising.{kind_for, revised_column, with_kinds}
use Rattle.vpf_prims.specs.Columns.{column_of}
use Rattle.vpf_prims.specs.Reading.{has_role}
use Rattle.vpf_prims.specs.Roles.{Role, suits}
use Rattle.vpf_prims.specs.Suiting.{SuitsRole, carried_columns}
use Rattle.vpf_primitive_tables.specs.Inner.TileReading.ChangeLaws.{found}
use Rattle.vpf_primitive_tables.specs.Inner.TileReading.ChangeLaws.{said_of, said_anew as said}
use Rattle.vpf_primitive_tables.proofs.tile_reading.EachLemmas.{slice_get_each}
use Rattle.vpf_primitive_tables.specs.Inner.TileReading.CellLaws.{place_kept}

-- the new kinds of the columns of these names
abbrev pub kinds_said : List Col → List (List ℕ × Kind) → List NewKind
kinds_said columns pairs = said (λ c v. record { column = c; kind = v }) columns pairs

-- the one of a column is that which is said under its name
pub kind_found : (columns : List Col) (name : List ℕ) (c : ℕ) → place_of name columns ≡ Some c → (pairs : List (List ℕ × Kind))
    → kind_for c (kinds_said columns pairs) ≡ said_of name pairs
kind_found columns name c e pairs =
    found (λ c v. record { column = c; kind = v }) (λ (new : NewKind). new.column) (λ (new : NewKind). new.kind) (λ c v. refl) (λ c v. refl)
    columns name c e pairs

-- what is said under the name of a role, if anything, is a kind that it allows
abbrev pub Allows : List (List ℕ × Kind) → Role → Type 0
Allows pairs role = IfSome (said_of role.name pairs) (λ kind. suits role.wants kind ≡ true)

-- a column suits its role still, with a new kind or without one
kind_suits : (role : Role) (kind : Kind) (o : Option Kind) → IfSome o (λ kind. suits role.wants kind ≡ true) → suits role.wants kind ≡ true
    → suits role.wants (unwrap_or o kind) ≡ true
kind_suits role kind None fits s = s
kind_suits role kind (Some new) fits s = fits

column_suits : (columns : List Col) (role : Role) (pairs : List (List ℕ × Kind)) (c : ℕ) → place_of role.name columns ≡ Some c → Allows pairs role
    → (o : Option Col) → SuitsRole role o → SuitsRole role (option_map (revised_column (kinds_said columns pairs) c) o)
column_suits columns role pairs c e fits None s = s
column_suits columns role pairs c e fits (Some column) s =
    subst (λ (o : Option Kind). suits role.wants (unwrap_or o column.kind) ≡ true) (sym (kind_found columns role.name c e pairs))
    (kind_suits role column.kind (said_of role.name pairs) fits s)

role_suits : (columns : List Col) (role : Role) (pairs : List (List ℕ × Kind)) → Allows pairs role → (o : Option ℕ) → place_of role.name columns ≡ o
    → SuitsRole role (option_and_then (slice_get columns) o) → SuitsRole role (option_and_then (slice_get (with_kinds (kinds_said columns pairs) columns)) o)
role_suits columns role pairs fits None e s = s
role_suits columns role pairs fits (Some c) e s =
    subst (SuitsRole role) (sym (slice_get_each (λ at. revised_column (kinds_said columns pairs) at.0 at.1) 0 c c columns (omega arith)))
    (column_suits columns role pairs c e fits (slice_get columns c) s)

-- the columns of roles suit them still
pub roles_suit : (columns : List Col) (pairs : List (List ℕ × Kind)) (roles : List Role) → AllByRecursion (Allows pairs) roles
    → AllByRecursion (λ role. SuitsRole role (column_of columns role.name)) roles
    → AllByRecursion (λ role. SuitsRole role (column_of (with_kinds (kinds_said columns pairs) columns) role.name)) roles
roles_suit columns pairs [] fits s = tt
roles_suit columns pairs (role ∷ roles) fits s = (
  subst (λ (o : Option ℕ). SuitsRole role (option_and_then (slice_get (with_kinds (kinds_said columns pairs) columns)) o))
      (sym (place_kept (kinds_said columns pairs) role.name columns)) (role_suits columns role pairs fits.0 (place_of role.name columns) refl s.0),
  roles_suit columns pairs roles fits.1 s.1,
)

-- columns that all have a role
cons_nil : {X : Type 0} (x : X) (xs : List X) → x ∷ xs ≡ [] → ⊥
cons_nil x xs e = cc

bare_step : {X : Type 0} (b : Bool) (x y : X) (xs ys : List X) → cond b (x ∷ xs) xs ≡ [] → (xs ≡ [] → ys ≡ []) → cond b (y ∷ ys) ys ≡ []
bare_step true x y xs ys e h = absurd (cons_nil x xs e)
bare_step false x y xs ys e h = h e

bare_each : (roles : List Role) (kinds : List NewKind) (n : ℕ) (columns : List Col) → carried_columns roles columns ≡ []
    → carried_columns roles (map (λ at. revised_column kinds at.0 at.1) (enumerate_from n columns)) ≡ []
bare_each roles kinds n [] e = refl
bare_each roles kinds n (column ∷ columns) e =
    bare_step (not (has_role roles column)) column (revised_column kinds n column) (carried_columns roles columns)
    (carried_columns roles (map (λ at. revised_column kinds at.0 at.1) (enumerate_from (n + 1) columns))) e (bare_each roles kinds (n + 1) columns)

-- where each column has a role, each has one still
pub bare_kept : (roles : List Role) (kinds : List NewKind) (columns : List Col) → carried_columns roles columns ≡ []
    → carried_columns roles (with_kinds kinds columns) ≡ []
bare_kept roles kinds columns e = bare_each roles kinds 0 columns e
