-- Bytes begin with one header, or have one first fault.
use Rattle.std.proofs.Common.{◌≡◌, ℕ, List, ◌++◌, length, take, drop, Result, Ok, Err, refl, sym, ap, ◌∙◌, inl, inr, ◌⊎◌}
use Rattle.std.proofs.lemmas.List.{take_at, drop_at, take-append-drop}
use Rattle.std.specs.Prelude.{IfOk, IfErr}
use Rattle.vpf_base.specs.Bytes.{IsBytes}
use Rattle.vpf_base.proofs.Results.{ok_not_err, one_err, ok_is}
use Rattle.vpf_triplet.specs.declared.places.Place.{Place}
use Rattle.vpf_triplet.specs.declared.places.PlaceError.{PlaceError}
use Rattle.vpf_triplet.specs.declared.places.PlaceError.TheVariants as errors
use Rattle.vpf_triplet.specs.Places.{Answers, ForPlace}
use Rattle.vpf_head.specs.Inner.Deciding.{BeginsHeader, DecidesHeader}
use Rattle.vpf_head.specs.Faults.{FirstHeaderFault}
use Rattle.vpf_head.specs.Head.{Head}
use Rattle.vpf_head.specs.Reading.{header_of}
use Rattle.vpf_head.specs.Spelling.{IsHeader}
use Rattle.vpf_head.proofs.HeaderFaults.{header_faults}
use Rattle.vpf_head.proofs.HeaderLaws.{header_again, header_spelled}
use Rattle.vpf_head.proofs.HeaderRefusals.{header_refused}

pub begins_read : (bytes : List ℕ) (h : Head) (text rest : List ℕ) → BeginsHeader bytes h text rest → header_of bytes ≡ Ok (h, length text)
begins_read bytes h text rest b = ap header_of b.parts ∙ header_again h text rest b.spelled

abbrev Either : List ℕ → Type 0
Either bytes = ((h : Head) × (text : List ℕ) × (rest : List ℕ) × BeginsHeader bytes h text rest) ⊎ ((place : Place) × FirstHeaderFault bytes place)

either_of : (bytes : List ℕ) (r : Result (Head × ℕ) Place) → IsBytes bytes → header_of bytes ≡ r → Either bytes
either_of bytes (Ok x) fits e = inl (x.0, take x.1 bytes, drop x.1 bytes, record { parts = sym (take-append-drop x.1 bytes); spelled = header_spelled bytes x.0 x.1 fits e })
either_of bytes (Err p) fits e = inr (p, header_faults bytes p e)

same_parts : (bytes : List ℕ) (h k : Head) (text rest text2 rest2 : List ℕ) → BeginsHeader bytes h text rest → BeginsHeader bytes k text2 rest2 → (h ≡ k) × (text ≡ text2) × (rest ≡ rest2)
same_parts bytes h k text rest text2 rest2 a b =
    let same = ok_is {x = (h, length text)} {y = (k, length text2)} (sym (begins_read bytes h text rest a) ∙ begins_read bytes k text2 rest2 b) in
    let n : length text ≡ length text2 = ap (λ (x : Head × ℕ). x.1) same in
    let joined : text ++ rest ≡ text2 ++ rest2 = sym a.parts ∙ b.parts in (
      ap (λ (x : Head × ℕ). x.0) same,
      sym (take_at text rest (length text) refl) ∙ ap (take (length text)) joined ∙ take_at text2 rest2 (length text) (sym n),
      sym (drop_at text rest (length text) refl) ∙ ap (drop (length text)) joined ∙ drop_at text2 rest2 (length text) (sym n),
    )

pub decided : (bytes : List ℕ) → IsBytes bytes → DecidesHeader bytes
decided bytes fits = record {
  either = either_of bytes (header_of bytes) fits refl;
  never_both = λ h text rest p b e. ok_not_err (header_of bytes) (h, length text) p (begins_read bytes h text rest b) (header_refused bytes p e);
  one_place = λ p q e f. one_err (header_of bytes) p q (header_refused bytes p e) (header_refused bytes q f);
  one_header = λ h k text rest text2 rest2 a b. same_parts bytes h k text rest text2 rest2 a b;
}

pub is_found : (bytes : List ℕ) (r : Result (Head × ℕ) PlaceError) → IsBytes bytes → Answers (λ x. x) r (header_of bytes) → IfOk r (λ x. IsHeader x.0 (take x.1 bytes))
is_found bytes (Ok x) fits given = header_spelled bytes x.0 x.1 fits given
is_found bytes (Err e) fits given = tt

pub is_only : (bytes : List ℕ) (r : Result (Head × ℕ) PlaceError) (h : Head) (text rest : List ℕ) → Answers (λ x. x) r (header_of bytes) → BeginsHeader bytes h text rest → Answers (λ x. x) r (Ok (h, length text))
is_only bytes (Ok x) h text rest given b = sym (begins_read bytes h text rest b) ∙ given
is_only bytes (Err errors.NoMemory) h text rest given b = tt
is_only bytes (Err (errors.Place p)) h text rest given b = sym (begins_read bytes h text rest b) ∙ given

pub is_refused : (bytes : List ℕ) (r : Result (Head × ℕ) PlaceError) → Answers (λ x. x) r (header_of bytes) → IfErr r (ForPlace (FirstHeaderFault bytes))
is_refused bytes (Ok x) given = tt
is_refused bytes (Err errors.NoMemory) given = tt
is_refused bytes (Err (errors.Place p)) given = header_faults bytes p given
