-- Columns that stand at the same places in two tables.
use Rattle.std.proofs.Common.{◌≡◌, ◌∙◌, inl, inr, ℕ, zero, suc, ◌+◌, ◌<◌, Bool, true, false, Option, Some, None, List, [], ◌∷◌, length, get_or, refl, sym, ap, arith}
use Rattle.std.specs.Prelude.{◌⊎◌, ◌||◌, not, cond, filter, nat_eq, nat_lt, position, is_some}
use Rattle.std.specs.List.{AllByRecursion, list_any, position_or_len}
use Rattle.std.specs.Cmp.Lexicographic.{pointwise, same_text}
use Rattle.std.proofs.lemmas.Cmp.{nat_list_eq_equiv}
use Rattle.std.proofs.lemmas.List.Quantifiers.{position-Some}
use Rattle.std.proofs.lemmas.Bool.Decides.{nat_tests}
use Rattle.vpf_head.specs.Folding.{lowercase, same_name}
use Rattle.vpf_head.specs.Head.{Col, names, place_of}
use Rattle.vpf_prims.specs.Reading.{has_role}
use Rattle.vpf_prims.specs.Roles.{Role}
use Rattle.vpf_prims.specs.Suiting.{carried_columns}

all_at : {X : Type 0} (Q : X → Type 0) (xs : List X) (i : ℕ) (d : X) → AllByRecursion Q xs → i < length xs → Q (get_or xs i d)
all_at Q [] i d h l = absurd (omega arith)
all_at Q (x ∷ xs) zero d h l = h.0
all_at Q (x ∷ xs) (suc i) d h l = all_at Q xs i d h.1 (omega arith)

-- what holds of everything holds of all elements of a list
pub all_of : {X : Type 0} (Q : X → Type 0) → ((x : X) → Q x) → (xs : List X) → AllByRecursion Q xs
all_of Q h [] = tt
all_of Q h (x ∷ xs) = (h x, all_of Q h xs)

-- what follows of each from two facts
pub all_both : {X : Type 0} (A B D : X → Type 0) → ((x : X) → A x → B x → D x) → (xs : List X) → AllByRecursion A xs → AllByRecursion B xs → AllByRecursion D xs
all_both A B D f [] a b = tt
all_both A B D f (x ∷ xs) a b = (f x a.0 b.0, all_both A B D f xs a.1 b.1)

kept_at : {X : Type 0} (Q : X → Type 0) (b : Bool) (x : X) (xs : List X) → Q x → AllByRecursion Q xs → AllByRecursion Q (cond b (x ∷ xs) xs)
kept_at Q true x xs q h = (q, h)
kept_at Q false x xs q h = h

-- what holds of all holds of those that pass a test
pub all_kept : {X : Type 0} (p : X → Bool) (Q : X → Type 0) (xs : List X) → AllByRecursion Q xs → AllByRecursion Q (filter p xs)
all_kept p Q [] h = tt
all_kept p Q (x ∷ xs) h = kept_at Q (p x) x (filter p xs) h.0 (all_kept p Q xs h.1)

-- a name is its own
own_name : (name : List ℕ) → same_name name name ≡ true
own_name name = nat_list_eq_equiv.refl (lowercase name)

-- one name stands at one place
place_named : (a b : List ℕ) (columns : List Col) → same_name a b ≡ true → place_of a columns ≡ place_of b columns
place_named a b columns h = ap (λ (w : List ℕ). position (λ (x : List ℕ). pointwise nat_eq w (lowercase x)) (names columns)) (same_text (lowercase a) (lowercase b) (sym h))

-- a name stands at the same place in both
abbrev pub IsSame : List Col → List Col → List ℕ → Type 0
IsSame columns there name = place_of name columns ≡ place_of name there

same_other : (columns there : List Col) (a b : List ℕ) → same_name a b ≡ true → IsSame columns there a → IsSame columns there b
same_other columns there a b h is = sym (place_named a b columns h) ∙ is ∙ place_named a b there h

either_true : (a b : Bool) → (a || b) ≡ true → (a ≡ true) ⊎ (b ≡ true)
either_true true b h = inl refl
either_true false b h = inr h

-- a name that a role has
role_same : (columns there : List Col) (roles : List Role) (name : List ℕ) → list_any (λ role. same_name role.name name) roles ≡ true → AllByRecursion (λ (role : Role). IsSame columns there role.name) roles
    → IsSame columns there name
role_same columns there [] name h all = absurd cc
role_same columns there (role ∷ roles) name h all =
    elim (either_true (same_name role.name name) (list_any (λ (role : Role). same_name role.name name) roles) h) [
      | inl e ↦ same_other columns there role.name name e all.0
      | inr e ↦ role_same columns there roles name e all.1
    ]

-- the names of all columns, with a role or without
names_at : (columns there : List Col) (roles : List Role) (column : Col) (rest : List Col) (b : Bool) → has_role roles column ≡ b → AllByRecursion (λ (role : Role). IsSame columns there role.name) roles
    → AllByRecursion (λ (c : Col). IsSame columns there c.name) (cond (not b) (column ∷ rest) rest) → IsSame columns there column.name × AllByRecursion (λ (c : Col). IsSame columns there c.name) rest
names_at columns there roles column rest true has all h = (role_same columns there roles column.name has all, h)
names_at columns there roles column rest false has all h = h

names_same : (columns there : List Col) (roles : List Role) (some : List Col) → AllByRecursion (λ (role : Role). IsSame columns there role.name) roles
    → AllByRecursion (λ (c : Col). IsSame columns there c.name) (carried_columns roles some) → AllByRecursion (IsSame columns there) (names some)
names_same columns there roles [] all h = tt
names_same columns there roles (column ∷ some) all h =
    let first = names_at columns there roles column (carried_columns roles some) (has_role roles column) refl all h in
    (first.0, names_same columns there roles some all first.1)

-- a name that stands in one of the two
found_same : (columns there some : List Col) (name : List ℕ) (c : ℕ) → place_of name some ≡ Some c → AllByRecursion (IsSame columns there) (names some) → IsSame columns there name
found_same columns there some name c e all =
    let first = position-Some (same_name name) (names some) c [] e in
    let other = get_or (names some) c [] in
    let is : IsSame columns there other = all_at (IsSame columns there) (names some) c [] all first.0 in
    place_named name other columns first.1 ∙ is ∙ sym (place_named name other there first.1)

name_same : (columns there : List Col) (name : List ℕ) (here other : Option ℕ) → place_of name columns ≡ here → place_of name there ≡ other → AllByRecursion (IsSame columns there) (names columns)
    → AllByRecursion (IsSame columns there) (names there) → IsSame columns there name
name_same columns there name None None e f a b = e ∙ sym f
name_same columns there name None (Some d) e f a b = found_same columns there there name d f b
name_same columns there name (Some c) other e f a b = found_same columns there columns name c e a

-- where the names of roles and of the columns without one stand at the same places, all names do
pub all_same : (columns there : List Col) (roles : List Role) → AllByRecursion (λ (role : Role). IsSame columns there role.name) roles
    → AllByRecursion (λ (c : Col). IsSame columns there c.name) (carried_columns roles columns) → AllByRecursion (λ (c : Col). IsSame columns there c.name) (carried_columns roles there)
    → (name : List ℕ) → IsSame columns there name
all_same columns there roles r a b name =
    name_same columns there name (place_of name columns) (place_of name there) refl refl (names_same columns there roles columns r a) (names_same columns there roles there r b)

-- a list in which something passes has a first place where it does
first_at : {X : Type 0} (p : X → Bool) (xs : List X) (b : Bool) → (list_any p xs ≡ true → position_or_len p xs < length xs) → (b || list_any p xs) ≡ true → cond (not b) (1 + position_or_len p xs) 0 < suc (length xs)
first_at p xs true within h = omega arith
first_at p xs false within h = omega (arith, within h)

first_within : {X : Type 0} (p : X → Bool) (xs : List X) → list_any p xs ≡ true → position_or_len p xs < length xs
first_within p [] h = absurd cc
first_within p (x ∷ xs) h = first_at p xs (p x) (first_within p xs) h

stands : (p : List ℕ → Bool) (some : List (List ℕ)) → list_any p some ≡ true → is_some (position p some) ≡ true
stands p some h =
    let l : position_or_len p some < length some = first_within p some h in
    let t : nat_lt (position_or_len p some) (length some) ≡ true = grind (arith, nat_tests) in
    rw t refl

-- each column of a table stands in it
own_places : (some columns : List Col) → ((name : List ℕ) → list_any (same_name name) (names some) ≡ true → list_any (same_name name) (names columns) ≡ true)
    → AllByRecursion (λ (c : Col). is_some (place_of c.name columns) ≡ true) some
own_places [] columns within = tt
own_places (column ∷ some) columns within =
    (stands (same_name column.name) (names columns) (within column.name (rw (own_name column.name) refl)), own_places some columns (λ name h. within name (or_later (same_name name column.name) _ h)))
  where
    or_later : (a b : Bool) → b ≡ true → (a || b) ≡ true
    or_later true b h = refl
    or_later false b h = h

pub own_place : (columns : List Col) → AllByRecursion (λ (c : Col). is_some (place_of c.name columns) ≡ true) columns
own_place columns = own_places columns columns (λ name h. h)
