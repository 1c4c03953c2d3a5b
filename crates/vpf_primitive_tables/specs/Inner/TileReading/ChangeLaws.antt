-- Changes that are said_anew by the names of columns, and which of them is for a column: the first whose name is the column's.
use Rattle.std.proofs.Common.{[], ◌≡◌, ℕ, true, List, get_or, position, Some, ◌∷◌, ◌++◌, option_to_list, ◌≢◌, Bool, false, cond, ◌==◌, find, Option, None, refl, sym, ap, ◌∙◌, subst}
use Rattle.std.proofs.lemmas.List.Quantifiers.{position-Some}
use Rattle.vpf_head.specs.Folding.{same_name}
use Rattle.vpf_head.specs.Head.{Col, names, place_of}
use Rattle.std.specs.Option.{option_map}
use Rattle.std.proofs.lemmas.Bool.{eq-eqb, ne_eqb, false≢true}
use Rattle.vpf_primitive_tables.specs.Inner.TableForms.ColumnLaws.{same_names}

-- the column at the place of a name has that name
pub name_there : (name : List ℕ) (columns : List Col) (c : ℕ) → place_of name columns ≡ Some c → same_name name (get_or (names columns) c []) ≡ true
name_there name columns c e = (position-Some (same_name name) (names columns) c [] e).1

-- the changes in the columns of these names
abbrev pub said_anew : {R V : Type 0} → (ℕ → V → R) → List Col → List (List ℕ × V) → List R
said_anew make columns [] = []
said_anew make columns (p ∷ pairs) = option_to_list (option_map (λ c. make c p.1) (place_of p.0 columns)) ++ said_anew make columns pairs

-- one name, however it is spelled, stands at one place
pub place_same : (a b : List ℕ) (columns : List Col) → same_name a b ≡ true → place_of a columns ≡ place_of b columns
place_same a b columns h = λ i. position (λ x. same_names.congr a b x h i) (names columns)

-- names that differ stand at different places
pub places_differ : (a b : List ℕ) (columns : List Col) (p q : ℕ) → same_name a b ≡ false → place_of a columns ≡ Some p
    → place_of b columns ≡ Some q → p ≢ q
places_differ a b columns p q other e f same =
    let x : List ℕ = get_or (names columns) p [] in
    let here : same_name a x ≡ true = name_there a columns p e in
    let there : same_name b x ≡ true = subst (λ (i : ℕ). same_name b (get_or (names columns) i []) ≡ true) (sym same) (name_there b columns q f) in
    false≢true (sym other ∙ same_names.congr a x b here ∙ same_names.symm x b ∙ there)

-- what is new in a column, by changes of one form, as new kinds or new values: each has a column and what is new there
abbrev pub new_at : {R V : Type 0} → (R → ℕ) → (R → V) → ℕ → List R → Option V
new_at column of c changes = option_map of (find (λ new. column new == c) changes)

-- what they say under a name
abbrev pub said_of : {V : Type 0} → List ℕ → List (List ℕ × V) → Option V
said_of name [] = None
said_of name (p ∷ pairs) = cond (same_name p.0 name) (Some p.1) (said_of name pairs)

-- a change that is made of a column and of what is new there has these two
module _ {R V : Type 0} (make : ℕ → V → R) (column : R → ℕ) (of : R → V) (column_is : (c : ℕ) (v : V) → column (make c v) ≡ c)
    (of_is : (c : ℕ) (v : V) → of (make c v) ≡ v)
  where
    found_first : (c d : ℕ) (v : V) (rest : List R) → d ≡ c → new_at column of c (make d v ∷ rest) ≡ Some v
    found_first c d v rest e =
        ap (λ b. option_map of (cond b (Some (make d v)) (find (λ new. column new == c) rest))) (eq-eqb (column (make d v)) c (column_is d v ∙ e))
        ∙ ap Some (of_is d v)

    pub found_later : (c d : ℕ) (v : V) (rest : List R) → d ≢ c → new_at column of c (make d v ∷ rest) ≡ new_at column of c rest
    found_later c d v rest ne =
        ap (λ b. option_map of (cond b (Some (make d v)) (find (λ new. column new == c) rest)))
        (ne_eqb (column (make d v)) c (λ e. ne (sym (column_is d v) ∙ e)))

    found_step : (columns : List Col) (name : List ℕ) (c : ℕ) → place_of name columns ≡ Some c → (n : List ℕ) (v : V) (rest : List R)
        (o : Option ℕ) (b : Bool) → place_of n columns ≡ o → same_name n name ≡ b
        → new_at column of c (option_to_list (option_map (λ c. make c v) o) ++ rest) ≡ cond b (Some v) (new_at column of c rest)
    found_step columns name c e n v rest None true f h = absurd (none_some c (sym f ∙ place_same n name columns h ∙ e))
      where
        none_some : (c : ℕ) → None ≡ Some c → ⊥
        none_some c e = cc
    found_step columns name c e n v rest None false f h = refl
    found_step columns name c e n v rest (Some d) true f h = found_first c d v rest (some_inner d c (sym f ∙ place_same n name columns h ∙ e))
      where
        some_inner : (d c : ℕ) → Some d ≡ Some c → d ≡ c
        some_inner d c e = cc
    found_step columns name c e n v rest (Some d) false f h = found_later c d v rest (places_differ n name columns d c h f e)

    -- the change for the column of a name is what is said_anew under it
    pub found : (columns : List Col) (name : List ℕ) (c : ℕ) → place_of name columns ≡ Some c → (pairs : List (List ℕ × V))
        → new_at column of c (said_anew make columns pairs) ≡ said_of name pairs
    found columns name c e [] = refl
    found columns name c e (p ∷ pairs) =
        found_step columns name c e p.0 p.1 (said_anew make columns pairs) (place_of p.0 columns) (same_name p.0 name) refl refl
        ∙ ap (λ o. cond (same_name p.0 name) (Some p.1) o) (found columns name c e pairs)
