-- Columns that stand at the same places in two tables.
use Rattle.std.proofs.Common.{[], ◌≡◌, ℕ, zero, suc, ◌<◌, Bool, true, List, ◌∷◌, length, get_or, Some, slice_get, refl, sym, ap, ◌∙◌, inl, inr, arith}
use Rattle.std.specs.Prelude.{nat_lt}
use Rattle.std.specs.List.{IsDistinct, position_or_len}
use Rattle.std.proofs.lemmas.Bool.{cases_Bool, lt-ltb}
use Rattle.std.proofs.lemmas.List.{get_or-map, length-map}
use Rattle.std.proofs.lemmas.List.Quantifiers.{position-Some}
use Rattle.std.proofs.lemmas.Option.{get_or_from_slice_get, slice_get-get_or, slice_get_within}
use Rattle.vpf_head.specs.Folding.{same_name}
use Rattle.vpf_head.specs.Head.{Col, names, place_of}
use Rattle.vpf_prims.specs.Reading.{has_role}
use Rattle.vpf_prims.specs.Roles.{Role}
use Rattle.vpf_primitive_tables.specs.Inner.TableForms.ColumnLaws.{place_is, same_names}

-- there is a first item that passes where one does
first_within : {X : Type 0} (p : X → Bool) (xs : List X) (k : ℕ) (d : X) → k < length xs → p (get_or xs k d) ≡ true → position_or_len p xs < length xs
first_within p [] k d h e = absurd (omega arith)
first_within p (x ∷ xs) zero d h e = rw e (omega arith)
first_within p (x ∷ xs) (suc k) d h e =
    let rest : position_or_len p xs < length xs = first_within p xs k d (omega arith) e in
    elim (cases_Bool (p x)) [ inl t ↦ rw t (omega arith) | inr f ↦ rw f (omega arith) ]

-- the name of a column in the list of names
pub name_at : (columns : List Col) (c : ℕ) (x : Col) → slice_get columns c ≡ Some x → get_or (names columns) c [] ≡ x.name
name_at columns c x e =
    get_or-map (λ (column : Col). column.name) columns c x [] (slice_get_within columns c x e)
    ∙ ap (λ (column : Col). column.name) (get_or_from_slice_get columns c x x e)

within_names : (columns : List Col) (c : ℕ) (x : Col) → slice_get columns c ≡ Some x → c < length (names columns)
within_names columns c x e =
    let h = slice_get_within columns c x e in
    let same : length (names columns) ≡ length columns = length-map {A = Col} {B = List ℕ} columns (λ column. column.name) in
    omega arith

-- a name stands at the place of the column that has it
pub stands_at : (columns : List Col) (name : List ℕ) (c : ℕ) (x : Col) → IsDistinct same_name (names columns) → slice_get columns c ≡ Some x
    → same_name name x.name ≡ true → place_of name columns ≡ Some c
stands_at columns name c x apart e is =
    let h = within_names columns c x e in
    let there : same_name name (get_or (names columns) c []) ≡ true = rw (name_at columns c x e) is in
    let first : position_or_len (same_name name) (names columns) < length (names columns) = first_within (same_name name) (names columns) c [] h there in
    let test : nat_lt (position_or_len (same_name name) (names columns)) (length (names columns)) ≡ true = lt-ltb _ _ first in
    let found : place_of name columns ≡ Some (position_or_len (same_name name) (names columns)) = rw test refl in
    found ∙ ap Some (place_is name columns _ c apart found h there)

-- a column that stands there under the same name
pub record Stands (columns : List Col) (c : ℕ) (name : List ℕ) : Type 0 where
  pub column : Col
  pub at : slice_get columns c ≡ Some column
  pub named : same_name name column.name ≡ true

-- the place of a name has a column of that name
pub column_there : (columns : List Col) (name : List ℕ) (c : ℕ) (d : Col) → place_of name columns ≡ Some c → Stands columns c name
column_there columns name c d e =
    let first = position-Some (same_name name) (names columns) c [] e in
    let same : length (names columns) ≡ length columns = length-map {A = Col} {B = List ℕ} columns (λ column. column.name) in
    let h : c < length columns = omega (arith, first.0) in
    record {
      column = get_or columns c d;
      at = slice_get-get_or columns c d h;
      named = rw (get_or-map (λ (column : Col). column.name) columns c d [] h) at first.1;
    }

-- names stand at the same places in both
abbrev pub StandAlike : List Col → List Col → Type 0
StandAlike columns there = (name : List ℕ) → place_of name columns ≡ place_of name there

-- a column and that of the other table at its place have the same name
pub beside : (columns there : List Col) (c : ℕ) (x : Col) → IsDistinct same_name (names columns) → StandAlike columns there → slice_get columns c ≡ Some x
    → Stands there c x.name
beside columns there c x apart alike e =
    column_there there x.name c x (sym (alike x.name) ∙ stands_at columns x.name c x apart e (same_names.refl x.name))

no_more : (m n : ℕ) → ((c : ℕ) → c < m → c < n) → m < suc n
no_more zero n h = omega arith
no_more (suc m) n h = (let last = h m (omega arith) in omega arith)

-- there are as many columns
pub as_many : (columns there : List Col) → IsDistinct same_name (names columns) → IsDistinct same_name (names there) → StandAlike columns there
    → length columns ≡ length there
as_many columns there apart apart_there alike =
    let low = no_more (length columns) (length there) (λ c h. within columns there c apart alike h) in
    let high = no_more (length there) (length columns) (λ c h. within there columns c apart_there (λ name. sym (alike name)) h) in
    omega arith
  where
    some_at : (xs : List Col) (c : ℕ) → c < length xs → (x : Col) × (slice_get xs c ≡ Some x)
    some_at [] c h = absurd (omega arith)
    some_at (x ∷ xs) zero h = (x, refl)
    some_at (x ∷ xs) (suc c) h = some_at xs c (omega arith)

    within : (xs ys : List Col) (c : ℕ) → IsDistinct same_name (names xs) → StandAlike xs ys → c < length xs → c < length ys
    within xs ys c apart alike h =
        let x = some_at xs c h in
        let y = beside xs ys c x.0 apart alike x.1 in
        slice_get_within ys c y.column y.at

-- what has the name of one of two has the name of the other
pub same_too : (name x y : List ℕ) → same_name x y ≡ true → same_name name y ≡ same_name name x
same_too name x y e = same_names.symm name y ∙ sym (same_names.congr x y name e) ∙ same_names.symm x name

-- of two columns with the same name both have one of these roles, or neither
pub role_alike : (roles : List Role) (x y : Col) → same_name x.name y.name ≡ true → has_role roles x ≡ has_role roles y
role_alike [] x y e = refl
role_alike (role ∷ roles) x y e =
    rw (same_too role.name x.name y.name e, role_alike roles x y e) refl
