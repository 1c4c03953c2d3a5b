-- Columns by their names: where they stand, that they differ, and that those which can name rows have one value.
use Rattle.std.proofs.Common.{[], ◌≡◌, ◌≢◌, ℕ, ◌<◌, true, false, List, length, get_or, Option, Some, None, refl, sym, ap, ◌∙◌, inl, inr}
use Rattle.std.specs.Cmp.{IsEquivalence}
use Rattle.std.specs.List.{IsDistinct}
use Rattle.std.specs.Option.{IsSomeAnd}
use Rattle.std.proofs.lemmas.Bool.{cases_order, eqb-true, false≢true}
use Rattle.std.proofs.lemmas.Cmp.{nat_list_eq_equiv, on_equiv}
use Rattle.std.proofs.lemmas.List.Quantifiers.{position-Some}
use Rattle.std.proofs.lemmas.Map.Keys.{apart_from_distinct}
use Rattle.vpf_triplet.specs.declared.kinds.Count.{Count}
use Rattle.vpf_triplet.specs.declared.kinds.Count.TheVariants.{Fixed, Star}
use Rattle.vpf_triplet.specs.declared.kinds.Kind.{Kind}
use Rattle.vpf_triplet.specs.declared.kinds.Kind.TheVariants as kinds
use Rattle.vpf_triplet.specs.Kinds.{allows, is_one}
use Rattle.vpf_head.specs.Folding.{lowercase, same_name}
use Rattle.vpf_head.specs.Head.{Col, names, names_rows, place_of}
use Rattle.vpf_prims.specs.Roles.{is_reference, reference_role}
use Rattle.vpf_prims.specs.Suiting.{SuitsRole}

-- that two names are one is an equivalence
pub same_names : IsEquivalence same_name
same_names = on_equiv lowercase nat_list_eq_equiv

-- the place of a name is that of any column of that name
pub place_is : (name : List ℕ) (columns : List Col) (p c : ℕ) → IsDistinct same_name (names columns) → place_of name columns ≡ Some p → c < length (names columns)
    → same_name name (get_or (names columns) c []) ≡ true → p ≡ c
place_is name columns p c apart e within is =
    let first = position-Some (same_name name) (names columns) p [] e in
    elim (cases_order p c) [
      | inl same ↦ same
      | inr (inl before) ↦ absurd (false≢true (sym (apart_from_distinct same_name (names columns) p c [] apart before within)
          ∙ sym (same_names.congr name (get_or (names columns) p []) (get_or (names columns) c []) first.1) ∙ is))
      | inr (inr after) ↦ absurd (false≢true (sym (first.2 c after) ∙ is))
    ]

single : (count : Count) → is_one count ≡ true → count ≡ Fixed 1
single (Fixed n) e = ap Fixed (eqb-true n 1 e)
single Star e = absurd (false≢true e)

-- a column whose cells can name rows has one value
pub one_value : (kind : Kind) (count : Count) → names_rows kind ≡ true → allows kind count ≡ true → count ≡ Fixed 1
one_value kinds.S count h a = single count a
one_value kinds.I count h a = single count a
one_value kinds.K count h a = single count a
one_value kind count h a = absurd (false≢true h)

reference_kind : (kind : Kind) → is_reference kind ≡ true → names_rows kind ≡ true
reference_kind kinds.S s = refl
reference_kind kinds.I s = refl
reference_kind kinds.K s = refl
reference_kind kind s = absurd (false≢true s)

-- the column of a reference
pub reference_names : (name : List ℕ) (o : Option Col) → SuitsRole (reference_role name) o → IsSomeAnd o (λ column. names_rows column.kind ≡ true)
reference_names name None s = absurd (false≢true s)
reference_names name (Some x) s = reference_kind x.kind s
