-- Local numbers are places among the items of a tile.
use Rattle.std.proofs.Common.{◌≡◌, ℕ, zero, suc, ◌+◌, ◌<◌, ◌≤◌, true, eqb, length, get_or, Some, None, refl, sym, ap, ◌∙◌, inl, inr, arith, add-one, ◌∷◌}
use Rattle.std.proofs.lemmas.Bool.{cases_Bool, cond-false, eqb-true}
use Rattle.std.proofs.lemmas.List.{get_or_default}
use Rattle.std.proofs.lemmas.List.Folds.{Any-from_list_any}
use Rattle.vpf_prims.specs.Lists.{kth}
use Rattle.vpf_cutting.specs.Inner.Copies.Laws.{LocalsArePlaces, PlacesAreLocals}
use Rattle.vpf_cutting.specs.Inner.Copies.Presence.{Presence, has, is_one_of, items_in, local_number, rank_up_to}
use Rattle.vpf_cutting.proofs.copies.CopyLemmas.{local_found}
use Rattle.vpf_cutting.proofs.copies.FilterLemmas.{in_filter}
use Rattle.vpf_base.proofs.Options.{none_some}

pub places_are_locals : PlacesAreLocals
places_are_locals p t zero from to = absurd (omega arith)
places_are_locals p t (suc j) from to = sym (local_found p t (get_or (items_in p t) j 0) j (items_in p t) refl (omega arith) refl) ∙ ap (λ n. Some n) (add-one j)

some_is : (j k : ℕ) → Some j ≡ Some k → j ≡ k
some_is j k e = cc

-- an item of the tile stands somewhere in its list
stands : (p : Presence) (t i : ℕ) → 1 ≤ i → i ≤ p.items → has p t i ≡ true → (j : ℕ) × (j < length (items_in p t)) × (get_or (items_in p t) j 0 ≡ i)
stands p t i from to h =
    let there : is_one_of (items_in p t) i ≡ true = in_filter (has p t) p.items 1 i from (omega arith) ∙ h in
    let a = Any-from_list_any (λ x. eqb x i) (items_in p t) there in
    (a.0, a.2, sym (get_or_default (items_in p t) a.0 a.1 0 a.2) ∙ a.3 ∙ eqb-true a.1 i a.4)

pub locals_are_places : LocalsArePlaces
locals_are_places p t i k from to h = elim (cases_Bool (has p t i)) [
  | inl is ↦ (
      let s = stands p t i from to is in
      let local : Some (s.0 + 1) ≡ local_number p t i = local_found p t i s.0 (items_in p t) refl s.1 s.2 in
      let place : s.0 + 1 ≡ k = some_is (s.0 + 1) k (local ∙ h) in
      ap (λ n. kth (items_in p t) n 0) (sym place) ∙ ap (λ n. get_or (0 ∷ items_in p t) n 0) (add-one s.0) ∙ s.2)
  | inr not_there ↦ absurd (none_some k (sym (cond-false (has p t i) (Some (rank_up_to (has p t) i)) None not_there) ∙ h))
]
