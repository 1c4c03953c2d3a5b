-- Bytes begin with one cell, or are refused with one code; and so for calls that read.
use Rattle.std.specs.Prelude.{IfOk, IfErr, IsOkAnd, slice_range}
use Rattle.std.proofs.Common.{◌≡◌, ℕ, ◌+◌, ◌-◌, ◌≤◌, List, length, take, drop, Result, Ok, Err, refl, sym, ap, ◌∙◌, arith, inl, inr, ◌⊎◌}
use Rattle.std.proofs.lemmas.List.{take_at, drop_at, take-append-drop}
use Rattle.vpf_base.proofs.ByteLists.{IsBytes-drop}
use Rattle.vpf_triplet.specs.Bytes.{IsBytes}
use Rattle.vpf_base.proofs.Results.{ok_not_err, one_err, ok_is}
use Rattle.vpf_base.specs.declared.orders.Order.{Order}
use Rattle.vpf_triplet.specs.declared.kinds.Kind.{Kind}
use Rattle.vpf_triplet.specs.declared.kinds.Count.{Count}
use Rattle.vpf_triplet.specs.declared.places.Place.{Place}
use Rattle.vpf_triplet.specs.declared.places.Code.{Code}
use Rattle.vpf_triplet.specs.Inner.FaultLaws.{triplet_faults}
use Rattle.vpf_value.specs.declared.cells.Cell.{Cell}
use Rattle.vpf_value.specs.Values.{Value, view}
use Rattle.vpf_value.specs.Reading.{CellAnswer, cell_from, ReadsCell}
use Rattle.vpf_value.specs.Spelling.{IsCell}
use Rattle.vpf_value.specs.Inner.Deciding.{BeginsCell, DecidesCell}
use Rattle.vpf_value.specs.Faults.{FirstCellFault}
use Rattle.vpf_value.proofs.CellFaults.{TripletFaults, TripletRefused, cell_faults, cell_refused}
use Rattle.vpf_value.proofs.CellLaws.{cell_again, cell_takes}

begins_read : (o : Order) (kind : Kind) (count : Count) (bytes : List ℕ) (v : Value) (text rest : List ℕ) → BeginsCell o kind count bytes v text rest → cell_from o kind count bytes ≡ Ok (v, length text)
begins_read o kind count bytes v text rest b = ap (cell_from o kind count) b.parts ∙ cell_again o kind count v text rest b.spelled

abbrev Either : Order → Kind → Count → List ℕ → Type 0
Either o kind count bytes = ((v : Value) × (text : List ℕ) × (rest : List ℕ) × BeginsCell o kind count bytes v text rest) ⊎ ((code : Code) × FirstCellFault o kind count bytes code)

either_of : TripletFaults → (o : Order) (kind : Kind) (count : Count) (bytes : List ℕ) (r : CellAnswer) → IsBytes bytes → cell_from o kind count bytes ≡ r → Either o kind count bytes
either_of tf o kind count bytes (Ok x) fits e = inl (x.0, take x.1 bytes, drop x.1 bytes, record { parts = sym (take-append-drop x.1 bytes); spelled = (cell_takes o kind count bytes x.0 x.1 fits e).1 })
either_of tf o kind count bytes (Err c) fits e = inr (c, cell_faults tf o kind count bytes c fits e)

same_parts : (o : Order) (kind : Kind) (count : Count) (bytes : List ℕ) (v u : Value) (text rest text2 rest2 : List ℕ) → BeginsCell o kind count bytes v text rest → BeginsCell o kind count bytes u text2 rest2 → (v ≡ u) × (text ≡ text2) × (rest ≡ rest2)
same_parts o kind count bytes v u text rest text2 rest2 a b =
    let same = ok_is {x = (v, length text)} {y = (u, length text2)} (sym (begins_read o kind count bytes v text rest a) ∙ begins_read o kind count bytes u text2 rest2 b) in
    let long : length text ≡ length text2 = ap (λ (p : Value × ℕ). p.1) same in
    let front = sym (take_at text rest (length text) refl) ∙ ap (take (length text)) (sym a.parts ∙ b.parts) ∙ take_at text2 rest2 (length text) (sym long) in
    let back = sym (drop_at text rest (length text) refl) ∙ ap (drop (length text)) (sym a.parts ∙ b.parts) ∙ drop_at text2 rest2 (length text) (sym long) in
    (ap (λ (p : Value × ℕ). p.0) same, front, back)

pub decided : TripletFaults → TripletRefused → (o : Order) (kind : Kind) (count : Count) (bytes : List ℕ) → IsBytes bytes → DecidesCell o kind count bytes
decided tf tr o kind count bytes fits = record {
  either = either_of tf o kind count bytes (cell_from o kind count bytes) fits refl;
  never_both = λ v text rest code b r. ok_not_err _ _ _ (begins_read o kind count bytes v text rest b) (cell_refused tr o kind count bytes code r);
  one_code = λ c d e f. one_err _ c d (cell_refused tr o kind count bytes c e) (cell_refused tr o kind count bytes d f);
  one_value = same_parts o kind count bytes;
}

-- ---- calls

pub is_found : (o : Order) (kind : Kind) (count : Count) (bytes : List ℕ) (at : ℕ) (r : Result (Cell × ℕ) Place) → IsBytes bytes → ReadsCell at r (cell_from o kind count (drop at bytes))
    → IfOk r (λ x. (at ≤ x.1) × IsCell o kind count (view x.0) (slice_range bytes at x.1))
is_found o kind count bytes at (Ok x) fits given =
    let k = cell_takes o kind count (drop at bytes) (view x.0) (x.1 - at) (IsBytes-drop at bytes fits) given.1 in
    (given.0, k.1)
is_found o kind count bytes at (Err p) fits given = tt

pub is_only : (o : Order) (kind : Kind) (count : Count) (bytes : List ℕ) (at : ℕ) (r : Result (Cell × ℕ) Place) (v : Value) (text rest : List ℕ)
    → ReadsCell at r (cell_from o kind count (drop at bytes)) → BeginsCell o kind count (drop at bytes) v text rest → IsOkAnd r (λ x. (view x.0 ≡ v) × (x.1 ≡ at + length text))
is_only o kind count bytes at (Ok x) v text rest given b =
    let same = ok_is {x = (view x.0, x.1 - at)} {y = (v, length text)} (sym given.1 ∙ begins_read o kind count (drop at bytes) v text rest b) in
    let long = ap (λ (p : Value × ℕ). p.1) same in
    (ap (λ (p : Value × ℕ). p.0) same, omega (arith, given.0, long))
is_only o kind count bytes at (Err p) v text rest given b = absurd (ok_not_err _ _ _ (begins_read o kind count (drop at bytes) v text rest b) given.0)

pub is_refused : (o : Order) (kind : Kind) (count : Count) (bytes : List ℕ) (at : ℕ) (r : Result (Cell × ℕ) Place) → IsBytes bytes → ReadsCell at r (cell_from o kind count (drop at bytes)) → IfErr r (λ p. FirstCellFault o kind count (drop at bytes) p.code)
is_refused o kind count bytes at (Ok x) fits given = tt
is_refused o kind count bytes at (Err p) fits given = cell_faults triplet_faults o kind count (drop at bytes) p.code (IsBytes-drop at bytes fits) given.0
