use Rattle.std.specs.Prelude.{IfOk, IfErr, slice_range}
use Rattle.vpf_base.proofs.ByteLists.{IsBytes-drop}
use Rattle.vpf_base.specs.Bytes.{IsBytes}
use Rattle.vpf_base.proofs.Results.{ok_not_err, one_err, ok_is}
use Rattle.vpf_triplet.specs.declared.places.Place.{Place}
use Rattle.std.proofs.Common.{◌-◌, ◌≡◌, ℕ, ◌+◌, ◌≤◌, List, length, take, drop, Result, Ok, Err, refl, sym, ap, ◌∙◌, arith, inl, inr, ◌⊎◌}
use Rattle.std.proofs.lemmas.List.{length-drop, take_at, drop_at, take-append-drop}
use Rattle.vpf_base.specs.declared.orders.Order.{Order}
use Rattle.vpf_triplet.specs.declared.places.Code.{Code}
use Rattle.vpf_triplet.specs.declared.triplets.Triplet.{Triplet}
use Rattle.vpf_triplet.specs.Spelling.{IsTriplet}
use Rattle.vpf_triplet.specs.Places.{Reads}
use Rattle.vpf_triplet.specs.Reading.{triplet_at}
use Rattle.vpf_triplet.specs.Inner.Deciding.{BeginsTriplet, DecidesTriplet}
use Rattle.vpf_triplet.specs.Faults.{FirstTripletFault}
use Rattle.vpf_triplet.proofs.Faults.{triplet_refused}
use Rattle.vpf_triplet.specs.Inner.FaultLaws.{triplet_faults}
use Rattle.vpf_triplet.specs.Inner.SpelledLaws.{triplet_again, triplet_takes}

pub begins_read : (o : Order) (bytes : List ℕ) (t : Triplet) (text rest : List ℕ) → BeginsTriplet o bytes t text rest → triplet_at o bytes ≡ Ok (t, length text)
begins_read o bytes t text rest b = ap (triplet_at o) b.parts ∙ triplet_again o t text rest b.spelled

abbrev Either : Order → List ℕ → Type 0
Either o bytes = ((t : Triplet) × (text : List ℕ) × (rest : List ℕ) × BeginsTriplet o bytes t text rest) ⊎ ((code : Code) × FirstTripletFault o bytes code)

either_of : (o : Order) (bytes : List ℕ) (r : Result (Triplet × ℕ) Code) → IsBytes bytes → triplet_at o bytes ≡ r → Either o bytes
either_of o bytes (Ok x) fits e = inl (x.0, take x.1 bytes, drop x.1 bytes, record { parts = sym (take-append-drop x.1 bytes); spelled = (triplet_takes o bytes x.0 x.1 fits e).1 })
either_of o bytes (Err c) fits e = inr (c, triplet_faults o bytes c fits e)

same_parts : (o : Order) (bytes : List ℕ) (t u : Triplet) (text rest text2 rest2 : List ℕ) → BeginsTriplet o bytes t text rest → BeginsTriplet o bytes u text2 rest2 → (t ≡ u) × (text ≡ text2) × (rest ≡ rest2)
same_parts o bytes t u text rest text2 rest2 a b =
    let same = ok_is {x = (t, length text)} {y = (u, length text2)} (sym (begins_read o bytes t text rest a) ∙ begins_read o bytes u text2 rest2 b) in
    let len : length text ≡ length text2 = ap (λ (p : Triplet × ℕ). p.1) same in
    let front = sym (take_at text rest (length text) refl) ∙ ap (take (length text)) (sym a.parts ∙ b.parts) ∙ take_at text2 rest2 (length text) (sym len) in
    let back = sym (drop_at text rest (length text) refl) ∙ ap (drop (length text)) (sym a.parts ∙ b.parts) ∙ drop_at text2 rest2 (length text) (sym len) in
    (ap (λ (p : Triplet × ℕ). p.0) same, front, back)

pub decided : (o : Order) (bytes : List ℕ) → IsBytes bytes → DecidesTriplet o bytes
decided o bytes fits = record {
  either = either_of o bytes (triplet_at o bytes) fits refl;
  never_both = λ t text rest code b r. ok_not_err _ _ _ (begins_read o bytes t text rest b) (triplet_refused o bytes code r);
  one_code = λ c d e f. one_err _ c d (triplet_refused o bytes c e) (triplet_refused o bytes d f);
  one_value = same_parts o bytes;
}

pub is_found : (o : Order) (bytes : List ℕ) (at : ℕ) (r : Result (Triplet × ℕ) Place) → IsBytes bytes → at ≤ length bytes → Reads at r (triplet_at o (drop at bytes))
    → IfOk r (λ x. (at ≤ x.1) × (x.1 ≤ length bytes) × IsTriplet o x.0 (slice_range bytes at x.1))
is_found o bytes at (Ok x) fits h given =
    let k = triplet_takes o (drop at bytes) x.0 (x.1 - at) (IsBytes-drop at bytes fits) given.1 in
    (given.0, omega (arith, given.0, k.0, length-drop at bytes), k.1)
is_found o bytes at (Err p) fits h given = tt

pub is_only : (o : Order) (bytes : List ℕ) (at : ℕ) (r : Result (Triplet × ℕ) Place) (t : Triplet) (text rest : List ℕ) → Reads at r (triplet_at o (drop at bytes)) → BeginsTriplet o (drop at bytes) t text rest → r ≡ Ok (t, at + length text)
is_only o bytes at (Ok x) t text rest given b =
    let same = ok_is {x = (x.0, x.1 - at)} {y = (t, length text)} (sym given.1 ∙ begins_read o (drop at bytes) t text rest b) in
    let len = ap (λ (p : Triplet × ℕ). p.1) same in
    let one : x.0 ≡ t = ap (λ (p : Triplet × ℕ). p.0) same in
    let two : x.1 ≡ at + length text = omega (arith, given.0, len) in
    rw (← one, ← two) refl
is_only o bytes at (Err p) t text rest given b = absurd (ok_not_err _ _ _ (begins_read o (drop at bytes) t text rest b) given.0)

pub is_refused : (o : Order) (bytes : List ℕ) (at : ℕ) (r : Result (Triplet × ℕ) Place) → IsBytes bytes → Reads at r (triplet_at o (drop at bytes)) → IfErr r (λ p. FirstTripletFault o (drop at bytes) p.code)
is_refused o bytes at (Ok x) fits given = tt
is_refused o bytes at (Err p) fits given = triplet_faults o (drop at bytes) p.code (IsBytes-drop at bytes fits) given.0
