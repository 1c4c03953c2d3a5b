-- Lines on the columns of a table find nothing exactly where the columns with a role are there and of their kinds, and all stand as in the
-- table that they are to be like.
use Rattle.std.proofs.Common.{[], ◌≡◌, ℕ, zero, suc, ◌<◌, ◌≤◌, Bool, List, ◌∷◌, length, true, false, Option, Some, None, refl, ap, subst, arith}
use Rattle.std.specs.Prelude.{◌↔◌, ◌==◌, ◌&&◌, not, is_some, slice_get, IfSome}
use Rattle.std.specs.Option.{option_and_then, option_eq, option_map}
use Rattle.std.proofs.lemmas.Bool.Decides.{nat_tests}
use Rattle.std.specs.List.{AllByRecursion}
use Rattle.std.proofs.lemmas.Cmp.{nat_list_eq_equiv}
use Rattle.vpf_triplet.specs.declared.kinds.Kind.{Kind}
use Rattle.vpf_triplet.specs.declared.kinds.Count.{Count}
use Rattle.vpf_triplet.specs.declared.kinds.Count.TheVariants.{Fixed, Star}
use Rattle.vpf_triplet.specs.Kinds.{kind_text, same_kind}
use Rattle.vpf_triplet.specs.Inner.KindLaws.{kinds_same}
use Rattle.vpf_head.specs.Head.{Col, place_of}
use Rattle.vpf_head.specs.Making.{same_count}
use Rattle.vpf_table.specs.Grid.{Row}
use Rattle.vpf_prims.specs.declared.placing.TableAt.{TableAt}
use Rattle.vpf_prims.specs.Roles.{Role, suits}
use Rattle.vpf_prims.specs.Columns.{placed_line, role_line, column_of}
use Rattle.vpf_prims.specs.Lines.{no_rows_line}
use Rattle.vpf_prims.specs.Suiting.{SuitsRole, carried_columns}
use Rattle.vpf_prims.specs.Inner.ColumnLaws.{place_within}
use Rattle.vpf_numbers.specs.ColumnLines.{bare_line, beside_finding, carried_columns_finding, carried_lines, form_line, lacking_finding, like_line, moved_line, named_line, role_lines, roles_finding}
use Rattle.vpf_numbers.specs.Matching.{AreLike, HaveSameColumns, form_of}
use Rattle.vpf_numbers.proofs.NumbersLines.{through, number_at, or_decides, unless_decides}
use Rattle.vpf_numbers.proofs.PlaceLemmas.{IsSame, all_both, all_kept, all_of, all_same, own_place}
use Rattle.vpf_head.specs.Inner.CountLaws.{own_count}

-- the line on the column of a role
placed_decides : (at : TableAt) (role : Role) (column : Option Col) → (placed_line at role column ≡ None) ↔ SuitsRole role column
placed_decides at role None = unless_decides role.optional _
placed_decides at role (Some column) = unless_decides (suits role.wants column.kind) _

-- the columns of a header have these roles
abbrev pub Suits : List Col → List Role → Type 0
Suits columns roles = AllByRecursion (λ (role : Role). SuitsRole role (column_of columns role.name)) roles

-- there is a column at a place within a table
get_some : (columns : List Col) (c : ℕ) → c < length columns → is_some (slice_get columns c) ≡ true
get_some [] c h = absurd (omega arith)
get_some (column ∷ columns) zero h = refl
get_some (column ∷ columns) (suc c) h = get_some columns c (omega arith)

-- a column that is there alone is found
only_there : (at : TableAt) (name : List ℕ) (there : Option Col) → is_some there ≡ true → moved_line at name None there false ≡ None → ⊥
only_there at name None some h = absurd cc
only_there at name (Some column) some h = absurd cc

both_there : (at : TableAt) (name : List ℕ) (here there : Option Col) (same : Bool) → is_some here ≡ true → (moved_line at name here there same ≡ None) ↔ (same ≡ true)
both_there at name None there same some = absurd cc
both_there at name (Some column) there same some = unless_decides same _

abbrev column_in : List Col → Option ℕ → Option Col
column_in columns place = option_and_then (slice_get columns) place

some_place : (columns : List Col) (c : ℕ) → IfSome (Some c) (λ (d : ℕ). d < length columns) → is_some (column_in columns (Some c)) ≡ true
some_place columns c h = get_some columns c h

abbrev eq_place : ℕ → ℕ → Bool
eq_place m n = m == n

moved_decides : (at : TableAt) (name : List ℕ) (columns there : List Col) (here other : Option ℕ) → IfSome here (λ (c : ℕ). c < length columns) → IfSome other (λ (c : ℕ). c < length there)
    → (moved_line at name (column_in columns here) (column_in there other) (option_eq eq_place here other) ≡ None) ↔ (here ≡ other)
moved_decides at name columns there None None a b = (λ h. refl, λ h. refl)
moved_decides at name columns there None (Some d) a b = (λ h. absurd (only_there at name (slice_get there d) (some_place there d b) h), λ e. absurd cc)
moved_decides at name columns there (Some c) None a b =
    through (both_there at name (slice_get columns c) None false (some_place columns c a)) (λ e. absurd cc, λ e. absurd cc)
moved_decides at name columns there (Some c) (Some d) a b = through (both_there at name (slice_get columns c) (slice_get there d) (c == d) (some_place columns c a)) (number_at c d)

-- the line on a name
named_decides : (at : TableAt) (columns there : List Col) (name : List ℕ) → (named_line at columns there name ≡ None) ↔ IsSame columns there name
named_decides at columns there name = moved_decides at name columns there (place_of name columns) (place_of name there) (place_within name columns) (place_within name there)

-- a name stands where it does in the table that this one is to be like
abbrev pub IsLike : List Col → Option (List Col) → List ℕ → Type 0
IsLike columns model name = IfSome model (λ there. IsSame columns there name)

like_decides : (at : TableAt) (columns : List Col) (model : Option (List Col)) (name : List ℕ) → (like_line at columns model name ≡ None) ↔ IsLike columns model name
like_decides at columns None name = (λ h. tt, λ h. refl)
like_decides at columns (Some there) name = named_decides at columns there name

-- the names of roles do
abbrev pub Likes : List Col → Option (List Col) → List Role → Type 0
Likes columns model roles = AllByRecursion (λ (role : Role). IsLike columns model role.name) roles

-- one thing by two, and what follows by two
apart : {A B C D : Type 0} → ((A × B) × (C × D)) ↔ ((A × C) × (B × D))
apart = (λ h. ((h.0.0, h.1.0), (h.0.1, h.1.1)), λ h. ((h.0.0, h.1.0), (h.0.1, h.1.1)))

-- the lines on the column of a role
pub role_decides : (at : TableAt) (columns : List Col) (model : Option (List Col)) (role : Role)
    → (role_lines at columns model role ≡ None) ↔ (SuitsRole role (column_of columns role.name) × IsLike columns model role.name)
role_decides at columns model role = or_decides (role_line at columns role) (like_line at columns model role.name) (placed_decides at role (column_of columns role.name)) (like_decides at columns model role.name)

-- the lines on the columns of all roles
pub roles_decide : (at : TableAt) (columns : List Col) (model : Option (List Col)) (roles : List Role)
    → (roles_finding at columns model roles ≡ None) ↔ (Suits columns roles × Likes columns model roles)
roles_decide at columns model [] = (λ h. (tt, tt), λ h. refl)
roles_decide at columns model (role ∷ roles) =
    through (or_decides (role_lines at columns model role) (roles_finding at columns model roles) (role_decides at columns model role) (roles_decide at columns model roles)) apart

-- a column is of the kind and count of another, where that is there
abbrev pub HasForm : Col → Option Col → Type 0
HasForm column there = IfSome there (λ other. form_of other ≡ form_of column)

both_true : (a b : Bool) → (a && b) ≡ true → (a ≡ true) × (b ≡ true)
both_true true b h = (refl, h)
both_true false b h = absurd cc

counts_same : (c d : Count) → same_count c d ≡ true → c ≡ d
counts_same (Fixed m) (Fixed n) h = let e : m ≡ n = grind (arith, nat_tests) in rw e refl
counts_same (Fixed m) Star h = absurd cc
counts_same Star (Fixed n) h = absurd cc
counts_same Star Star h = refl

own_kind : (k : Kind) → same_kind k k ≡ true
own_kind k = nat_list_eq_equiv.refl (kind_text k)

same_form : (column other : Col) → (same_kind column.kind other.kind && same_count column.count other.count) ≡ true → form_of other ≡ form_of column
same_form column other h =
    let both = both_true (same_kind column.kind other.kind) (same_count column.count other.count) h in
    let kind : column.kind ≡ other.kind = kinds_same column.kind other.kind both.0 in
    let count : column.count ≡ other.count = counts_same column.count other.count both.1 in
    rw (kind, count) refl

form_same : (column other : Col) → form_of other ≡ form_of column → (same_kind column.kind other.kind && same_count column.count other.count) ≡ true
form_same column other e =
    let kind : other.kind ≡ column.kind = ap (λ (f : Kind × Count). f.0) e in
    let count : other.count ≡ column.count = ap (λ (f : Kind × Count). f.1) e in
    rw (kind, count, own_kind column.kind, own_count column.count) refl

form_decides : (at : TableAt) (column : Col) (there : Option Col) → (form_line at column there ≡ None) ↔ HasForm column there
form_decides at column None = (λ h. tt, λ h. refl)
form_decides at column (Some other) = through (unless_decides (same_kind column.kind other.kind && same_count column.count other.count) _) (same_form column other, form_same column other)

-- a column without a role stands as it does there, and has that form
abbrev pub IsCarried : List Col → List Col → Col → Type 0
IsCarried columns there column = IsSame columns there column.name × HasForm column (column_of there column.name)

carried_decide : (at : TableAt) (columns there some : List Col) → (carried_columns_finding at columns there some ≡ None) ↔ AllByRecursion (IsCarried columns there) some
carried_decide at columns there [] = (λ h. tt, λ h. refl)
carried_decide at columns there (column ∷ some) =
    or_decides (carried_lines at columns there column) (carried_columns_finding at columns there some)
    (or_decides (named_line at columns there column.name) (form_line at column (column_of there column.name)) (named_decides at columns there column.name) (form_decides at column (column_of there column.name)))
    (carried_decide at columns there some)

lacking_decide : (at : TableAt) (columns there some : List Col) → (lacking_finding at columns there some ≡ None) ↔ AllByRecursion (λ (column : Col). IsSame columns there column.name) some
lacking_decide at columns there [] = (λ h. tt, λ h. refl)
lacking_decide at columns there (column ∷ some) =
    or_decides (named_line at columns there column.name) (lacking_finding at columns there some) (named_decides at columns there column.name) (lacking_decide at columns there some)

-- the columns without a role, next to those there
abbrev pub Carries : List Role → List Col → List Col → Type 0
Carries roles columns there = AllByRecursion (IsCarried columns there) (carried_columns roles columns) × AllByRecursion (λ (column : Col). IsSame columns there column.name) (carried_columns roles there)

-- the same where there is something to be like
abbrev pub Beside : List Role → List Col → Option (List Col) → Type 0
Beside roles columns model = IfSome model (λ there. Carries roles columns there)

-- the lines on the columns without a role
pub beside_decides : (at : TableAt) (roles : List Role) (columns : List Col) (model : Option (List Col)) → (beside_finding at roles columns model ≡ None) ↔ Beside roles columns model
beside_decides at roles columns None = (λ h. tt, λ h. refl)
beside_decides at roles columns (Some there) =
    or_decides (carried_columns_finding at columns there (carried_columns roles columns)) (lacking_finding at columns there (carried_columns roles there)) (carried_decide at columns there (carried_columns roles columns)) (lacking_decide at columns there (carried_columns roles there))

-- the form of a column that is there
form_there : (column : Col) (there : Option Col) → is_some there ≡ true → HasForm column there → option_map form_of there ≡ Some (form_of column)
form_there column None some h = absurd cc
form_there column (Some other) some h = ap Some h

has_form : (column : Col) (there : Option Col) → option_map form_of there ≡ Some (form_of column) → HasForm column there
has_form column None e = tt
has_form column (Some other) e = cc

place_some : (there : List Col) (place : Option ℕ) → is_some place ≡ true → IfSome place (λ (c : ℕ). c < length there) → is_some (column_in there place) ≡ true
place_some there None some h = absurd cc
place_some there (Some c) some h = some_place there c h

form_carried : (columns there : List Col) (column : Col) → is_some (place_of column.name columns) ≡ true → IsCarried columns there column → option_map form_of (column_of there column.name) ≡ Some (form_of column)
form_carried columns there column some h =
    let other : is_some (place_of column.name there) ≡ true = subst (λ (place : Option ℕ). is_some place ≡ true) h.0 some in
    form_there column (column_of there column.name) (place_some there (place_of column.name there) other (place_within column.name there)) h.1

-- what is so of the columns of two tables, from their roles and the others
have_same : (roles : List Role) (columns there : List Col) → (Likes columns (Some there) roles × Carries roles columns there) → HaveSameColumns roles columns there
have_same roles columns there h =
    let carried = carried_columns roles columns in
    let own : AllByRecursion (λ (c : Col). is_some (place_of c.name columns) ≡ true) carried = all_kept _ (λ (c : Col). is_some (place_of c.name columns) ≡ true) columns (own_place columns) in
    let places : AllByRecursion (λ (c : Col). IsSame columns there c.name) carried =
    all_both (λ (c : Col). IsCarried columns there c) (λ (c : Col). is_some (place_of c.name columns) ≡ true) (λ (c : Col). IsSame columns there c.name) (λ c a b. a.0) carried h.1.0 own in
    record {
      places = all_same columns there roles h.0 places h.1.1;
      forms = all_both (λ (c : Col). is_some (place_of c.name columns) ≡ true) (λ (c : Col). IsCarried columns there c) (λ (c : Col). option_map form_of (column_of there c.name) ≡ Some (form_of c)) (form_carried columns there) carried own h.1.0;
    }

same_have : (roles : List Role) (columns there : List Col) → HaveSameColumns roles columns there → (Likes columns (Some there) roles × Carries roles columns there)
same_have roles columns there h =
    let carried = carried_columns roles columns in
    let places : AllByRecursion (λ (c : Col). IsSame columns there c.name) carried = all_of (λ (c : Col). IsSame columns there c.name) (λ c. h.places c.name) carried in (
      all_of (λ (role : Role). IsSame columns there role.name) (λ role. h.places role.name) roles,
      (
        all_both (λ (c : Col). IsSame columns there c.name) (λ (c : Col). option_map form_of (column_of there c.name) ≡ Some (form_of c)) (λ (c : Col). IsCarried columns there c) (λ c a b. (a, has_form c (column_of there c.name) b)) carried places h.forms,
        all_of (λ (c : Col). IsSame columns there c.name) (λ c. h.places c.name) (carried_columns roles there),
      ),
    )

all_none : (columns : List Col) (roles : List Role) → Likes columns None roles
all_none columns roles = all_of (λ (role : Role). IsLike columns None role.name) (λ role. tt) roles

-- the names of roles and the columns without one are like those of another table
pub are_like : (roles : List Role) (columns : List Col) (model : Option (List Col)) → (Likes columns model roles × Beside roles columns model) ↔ AreLike roles model columns
are_like roles columns None = (λ h. tt, λ h. (all_none columns roles, tt))
are_like roles columns (Some there) = (have_same roles columns there, same_have roles columns there)

-- there are no other columns
pub bare_decides : (at : TableAt) (columns : List Col) → (bare_line at columns ≡ None) ↔ (columns ≡ [])
bare_decides at [] = (λ h. refl, λ h. refl)
bare_decides at (column ∷ columns) = (λ h. absurd cc, λ h. absurd cc)

some_count : (n : ℕ) → (not (n == 0) ≡ true) ↔ (1 ≤ n)
some_count n = (λ h. grind (arith, nat_tests), λ h. grind (arith, nat_tests))

-- there are rows
pub rows_there : (at : TableAt) (columns : List Col) (rows : List Row) (most : ℕ) → (no_rows_line at columns rows most ≡ None) ↔ (1 ≤ length rows)
rows_there at columns rows most = through (unless_decides (not (length rows == 0)) _) (some_count (length rows))
