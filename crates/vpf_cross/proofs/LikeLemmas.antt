-- Columns whose names stand at the same places: as many of them have no role.
use Rattle.std.proofs.Common.{[], ◌≡◌, ℕ, suc, ◌+◌, nat_lt, Bool, true, false, not, Option, Some, None, List, ◌∷◌, length, cond, filter, refl, sym, ap, ◌∙◌, arith}
use Rattle.std.specs.List.{AllByRecursion, IsDistinct, position, position_or_len}
use Rattle.std.specs.Option.{option_map}
use Rattle.std.specs.Str.{bytes_eq}
use Rattle.std.proofs.lemmas.Bool.Decides.{nat_tests}
use Rattle.std.proofs.lemmas.Slice.Eq.{bytes_eq-Decides}
use Rattle.vpf_head.specs.Folding.{lowercase, same_name}
use Rattle.vpf_head.specs.Head.{Col, names, place_of}
use Rattle.vpf_prims.specs.Reading.{has_role}
use Rattle.vpf_prims.specs.Roles.{Role}
use Rattle.vpf_prims.specs.Suiting.{carried_columns}
use Rattle.vpf_base.proofs.Options.{none_some}

-- one name, letters made small
small_same : (x y : List ℕ) → same_name x y ≡ true → lowercase x ≡ lowercase y
small_same x y e = (bytes_eq-Decides (lowercase x) (lowercase y)).0 e

same_self : (x : List ℕ) → same_name x x ≡ true
same_self x = (bytes_eq-Decides (lowercase x) (lowercase x)).1 refl

-- what is the same as one of two is the same as the other
same_of : (name x y : List ℕ) → lowercase x ≡ lowercase y → same_name name x ≡ same_name name y
same_of name x y e = ap (λ (w : List ℕ). bytes_eq (lowercase name) w) e

same_by : (name x y : List ℕ) → lowercase name ≡ lowercase x → same_name name y ≡ same_name x y
same_by name x y e = ap (λ (w : List ℕ). bytes_eq w (lowercase y)) e

-- a place one further on
abbrev next_place : Option ℕ → Option ℕ
next_place o = option_map suc o

place_hit : (t : List ℕ → Bool) (x : List ℕ) (xs : List (List ℕ)) → t x ≡ true → position t (x ∷ xs) ≡ Some 0
place_hit t x xs e =
    let some : nat_lt 0 (length (x ∷ xs)) ≡ true = grind (arith, nat_tests) in
    rw e (ap (λ (b : Bool). cond b (Some 0) None) some)

moved : (k n : ℕ) (a b : Bool) → nat_lt (1 + k) (suc n) ≡ a → nat_lt k n ≡ b → cond a (Some (1 + k)) None ≡ next_place (cond b (Some k) None)
moved k n true true e f = let next : 1 + k ≡ suc k = omega arith in ap Some next
moved k n false false e f = refl
moved k n true false e f = absurd (grind (arith, nat_tests, e, f))
moved k n false true e f = absurd (grind (arith, nat_tests, e, f))

place_miss : (t : List ℕ → Bool) (x : List ℕ) (xs : List (List ℕ)) → t x ≡ false → position t (x ∷ xs) ≡ next_place (position t xs)
place_miss t x xs e = rw e (moved (position_or_len t xs) (length xs) _ _ refl refl)

-- a name that stands nowhere
absent_from : (name x : List ℕ) (xs : List (List ℕ)) → lowercase name ≡ lowercase x → AllByRecursion (λ (y : List ℕ). same_name x y ≡ false) xs → position (same_name name) xs ≡ None
absent_from name x [] e h = refl
absent_from name x (y ∷ xs) e h =
    place_miss (same_name name) y xs (same_by name x y e ∙ h.0) ∙ ap next_place (absent_from name x xs e h.1)

-- the names stand at the same places
abbrev StandAlike : List Col → List Col → Type 0
StandAlike a b = (name : List ℕ) → place_of name a ≡ place_of name b

no_first : (o : Option ℕ) → next_place o ≡ Some 0 → ⊥
no_first None e = absurd cc
no_first (Some k) e = let same : suc k ≡ 0 = cc in absurd (omega (arith, same))

first_by : (x y : Col) (b : List Col) (s : Bool) → same_name x.name y.name ≡ s → position (same_name x.name) (y.name ∷ names b) ≡ Some 0 → lowercase x.name ≡ lowercase y.name
first_by x y b true e g = small_same x.name y.name e
first_by x y b false e g = absurd (no_first (position (same_name x.name) (names b)) (sym (place_miss (same_name x.name) y.name (names b) e) ∙ g))

first_alike : (x y : Col) (a b : List Col) → StandAlike (x ∷ a) (y ∷ b) → lowercase x.name ≡ lowercase y.name
first_alike x y a b h =
    first_by x y b (same_name x.name y.name) refl (sym (h x.name) ∙ place_hit (same_name x.name) x.name (names a) (same_self x.name))

same_next : (a b : Option ℕ) → next_place a ≡ next_place b → a ≡ b
same_next None None e = refl
same_next None (Some n) e = absurd cc
same_next (Some m) None e = absurd cc
same_next (Some m) (Some n) e = let same : suc m ≡ suc n = cc in ap Some (omega (arith, same))

rest_by : (x y : Col) (a b : List Col) (name : List ℕ) (s : Bool) → same_name name x.name ≡ s → StandAlike (x ∷ a) (y ∷ b) → lowercase x.name ≡ lowercase y.name
    → AllByRecursion (λ (z : List ℕ). same_name x.name z ≡ false) (names a) → AllByRecursion (λ (z : List ℕ). same_name y.name z ≡ false) (names b)
    → place_of name a ≡ place_of name b
rest_by x y a b name true is h e apart_a apart_b =
    let small = small_same name x.name is in
    absent_from name x.name (names a) small apart_a ∙ sym (absent_from name y.name (names b) (small ∙ e) apart_b)
rest_by x y a b name false is h e apart_a apart_b =
    let other : same_name name y.name ≡ false = sym (same_of name x.name y.name e) ∙ is in
    same_next _ _ (sym (place_miss (same_name name) x.name (names a) is) ∙ h name ∙ place_miss (same_name name) y.name (names b) other)

role_alike : (roles : List Role) (x y : Col) → lowercase x.name ≡ lowercase y.name → has_role roles x ≡ has_role roles y
role_alike [] x y e = refl
role_alike (role ∷ roles) x y e = rw (same_of role.name x.name y.name e, role_alike roles x y e) refl

carried_more : (roles : List Role) (x y : Col) (a b : List Col) (s t : Bool) → s ≡ t → length (filter (λ (c : Col). not (has_role roles c)) a) ≡ length (filter (λ (c : Col). not (has_role roles c)) b)
    → length (cond s (x ∷ carried_columns roles a) (carried_columns roles a)) ≡ length (cond t (y ∷ carried_columns roles b) (carried_columns roles b))
carried_more roles x y a b true true e h = let r = h in omega (arith, r)
carried_more roles x y a b false false e h = h
carried_more roles x y a b true false e h = absurd cc
carried_more roles x y a b false true e h = absurd cc

counts_alike : (roles : List Role) (a b : List Col) → IsDistinct same_name (names a) → IsDistinct same_name (names b) → StandAlike a b
    → length (carried_columns roles a) ≡ length (carried_columns roles b)
unfolding IsDistinct
counts_alike roles [] [] da db h = refl
counts_alike roles [] (y ∷ b) da db h =
    absurd (none_some 0 (h y.name ∙ place_hit (same_name y.name) y.name (names b) (same_self y.name)))
counts_alike roles (x ∷ a) [] da db h =
    absurd (none_some 0 (sym (h x.name) ∙ place_hit (same_name x.name) x.name (names a) (same_self x.name)))
counts_alike roles (x ∷ a) (y ∷ b) da db h =
    let e = first_alike x y a b h in
    let rest = counts_alike roles a b da.1 db.1 (λ name. rest_by x y a b name (same_name name x.name) refl h e da.0 db.0) in
    carried_more roles x y a b (not (has_role roles x)) (not (has_role roles y)) (ap not (role_alike roles x y e)) rest

-- as many columns have no role
pub carried_alike : (roles : List Role) (a b : List Col) → IsDistinct same_name (names a) → IsDistinct same_name (names b) → ((name : List ℕ) → place_of name a ≡ place_of name b)
    → length (carried_columns roles a) ≡ length (carried_columns roles b)
carried_alike roles a b da db h = counts_alike roles a b da db h
