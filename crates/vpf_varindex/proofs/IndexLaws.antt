-- What is read as an index is spelled so, and what is spelled so is read.
use Rattle.std.proofs.Common.{◌≡◌, ℕ, zero, suc, ◌+◌, ◌<◌, ◌≤◌, ◌^◌, ltb, List, [], ◌∷◌, ◌++◌, length, drop, Result, Ok, Err, refl, sym, ap, subst, ◌∙◌, arith, inl, inr, ◌⊎◌}
use Rattle.std.specs.Prelude.{All, IfOk, IfErr}
use Rattle.std.specs.Int.{w32}
use Rattle.std.proofs.lemmas.Bool.{le-ltb, ltb-false, le-leb}
use Rattle.std.proofs.lemmas.List.{drop_at, drop-drop, take-append-drop, length-append, length-drop, drop_all}
use Rattle.std.proofs.lemmas.List.Elements.{All-nil, All-cons, All-head, All-tail}
use Rattle.vpf_base.proofs.Results.{ok_is, guarded}
use Rattle.vpf_base.proofs.NumberLemmas.{length-number, number_again, number_takes, number_below}
use Rattle.vpf_base.proofs.ByteLists.{IsBytes-drop}
use Rattle.vpf_base.specs.Bytes.{IsBytes}
use Rattle.vpf_base.specs.declared.orders.Order.{Order}
use Rattle.vpf_triplet.specs.declared.places.Place.{Place}
use Rattle.vpf_triplet.specs.declared.places.Code.TheVariants as codes
use Rattle.vpf_base.specs.Numbers.{number, number_of}
use Rattle.vpf_triplet.specs.Places.{Gives, index_fault}
use Rattle.vpf_varindex.specs.Inner.Deciding.{DecidesIndex}
use Rattle.vpf_varindex.specs.Faults.{FirstIndexFault}
use Rattle.vpf_varindex.specs.Reading.{index_entry, entries_at, index_at}
use Rattle.vpf_varindex.specs.RowIndex.{entries_text, row_index, HasSpan, IsRowIndex}
use Rattle.vpf_varindex.proofs.Entries.{opens, closes, length-entries}
use Rattle.vpf_varindex.proofs.EntryFaults.{index_faults, fault_refuses}

-- what follows a number at the front
after_number : (o : Order) (n : ℕ) (bytes rest : List ℕ) (at : ℕ) → drop at bytes ≡ number o w32 n ++ rest → drop (at + 4) bytes ≡ rest
after_number o n bytes rest at e = sym (drop-drop 4 at bytes) ∙ ap (drop 4) e ∙ drop_at (number o w32 n) rest 4 (length-number o n)

number_there : (o : Order) (n : ℕ) (bytes rest : List ℕ) (at : ℕ) → n < 2 ^ 32 → drop at bytes ≡ number o w32 n ++ rest → number_of o w32 (drop at bytes) ≡ n
number_there o n bytes rest at h e = ap (number_of o w32) e ∙ number_again o n rest h

-- ---- what is spelled is read

pub entries_again : (o : Order) (spans : List (ℕ × ℕ)) (bytes : List ℕ) (at : ℕ) → All HasSpan spans → drop at bytes ≡ entries_text o spans → entries_at (length spans) o bytes at ≡ Ok spans
unfolding entries_at entries_text
entries_again o [] bytes at h e = rw (le-leb (length bytes) at (omega (arith, length-drop at bytes, ap length e))) refl
entries_again o (s ∷ ss) bytes at h e =
    let here = All-head HasSpan s ss h in
    let second : drop (at + 4) bytes ≡ number o w32 s.1 ++ entries_text o ss = after_number o s.0 bytes _ at e in
    let third = after_number o s.1 bytes (entries_text o ss) (at + 4) second in
    let k : at + 4 + 4 ≡ at + 8 = omega arith in
    let others = entries_again o ss bytes (at + 8) (All-tail HasSpan s ss h) (rw k at third) in
    let long : at + 8 ≤ length bytes = omega (arith, length-drop at bytes, ap length e, length-append (number o w32 s.0) (number o w32 s.1 ++ entries_text o ss), length-append (number o w32 s.1) (entries_text o ss), length-number o s.0, length-number o s.1) in
    rw (le-ltb (length bytes) (at + 8) long, others, number_there o s.0 bytes _ at here.0 e, number_there o s.1 bytes _ (at + 4) here.1 second) refl

pub written_again : (o : Order) (second : ℕ) (spans : List (ℕ × ℕ)) → length spans < 2 ^ 32 → All HasSpan spans → index_at o (row_index o second spans) ≡ Ok spans
unfolding index_at
written_again o second spans h all =
    let bytes = row_index o second spans in
    let rest = number o w32 second ++ entries_text o spans in
    let one : drop 4 bytes ≡ rest = after_number o (length spans) bytes rest 0 refl in
    let two : drop 8 bytes ≡ entries_text o spans = after_number o second bytes (entries_text o spans) 4 one in
    let long : 8 ≤ length bytes = omega (arith, length-append (number o w32 (length spans)) rest, length-append (number o w32 second) (entries_text o spans), length-number o (length spans), length-number o second) in
    let count : number_of o w32 bytes ≡ length spans = number_again o (length spans) rest h in
    rw (le-ltb (length bytes) 8 long, count) (entries_again o spans bytes 8 all two)

pub index_again : (o : Order) (spans : List (ℕ × ℕ)) (bytes : List ℕ) → IsRowIndex o spans bytes → index_at o bytes ≡ Ok spans
index_again o spans bytes i = ap (index_at o) i.spelled ∙ written_again o i.second spans i.holds_count i.holds_spans

pub written_spelled : (o : Order) (second : ℕ) (spans : List (ℕ × ℕ)) → second < 2 ^ 32 → length spans < 2 ^ 32 → All HasSpan spans → IsRowIndex o spans (row_index o second spans)
written_spelled o second spans h k all = record { second = second; holds_second = h; holds_count = k; holds_spans = all; spelled = refl }

-- ---- what is read is spelled

-- a number, and what follows it
split_number : (o : Order) (bytes : List ℕ) (at : ℕ) → IsBytes bytes → at + 4 ≤ length bytes → drop at bytes ≡ number o w32 (number_of o w32 (drop at bytes)) ++ drop (at + 4) bytes
split_number o bytes at fits h =
    rw (number_takes o (drop at bytes) (IsBytes-drop at bytes fits) (omega (arith, length-drop at bytes)), ← drop-drop 4 at bytes) (sym (take-append-drop 4 (drop at bytes)))

pub entries_take : (n : ℕ) (o : Order) (bytes : List ℕ) (at : ℕ) (es : List (ℕ × ℕ)) → IsBytes bytes → entries_at n o bytes at ≡ Ok es → All HasSpan es × (drop at bytes ≡ entries_text o es)
unfolding entries_text
entries_take zero o bytes at es fits e =
    let c = closes o bytes at es e in
    rw c.1 (All-nil HasSpan, drop_all at bytes c.0)
entries_take (suc n) o bytes at es fits e =
    let s = opens n o bytes at es e in
    let others = entries_take n o bytes (at + 8) s.others fits s.rest in
    let k : at + 4 + 4 ≡ at + 8 = omega arith in
    let here : HasSpan (index_entry o bytes at) = (number_below o (drop at bytes) (IsBytes-drop at bytes fits), number_below o (drop (at + 4) bytes) (IsBytes-drop (at + 4) bytes fits)) in
    let later = split_number o bytes (at + 4) fits (omega (arith, s.room)) in
    rw s.is (All-cons HasSpan (index_entry o bytes at) s.others here others.0, split_number o bytes at fits (omega (arith, s.room)) ∙ ap (λ (x : List ℕ). number o w32 (number_of o w32 (drop at bytes)) ++ x) (later ∙ ap (λ (x : List ℕ). number o w32 (number_of o w32 (drop (at + 4) bytes)) ++ x) (ap (λ (i : ℕ). drop i bytes) k ∙ others.1)))

pub index_takes : (o : Order) (spans : List (ℕ × ℕ)) (bytes : List ℕ) → IsBytes bytes → index_at o bytes ≡ Ok spans → IsRowIndex o spans bytes
unfolding index_at
index_takes o spans bytes fits e =
    let p = guarded (ltb (length bytes) 8) (index_fault 0 codes.IndexCut) (entries_at (number_of o w32 bytes) o bytes 8) spans e in
    let long : 8 ≤ length bytes = ltb-false _ _ p.0 in
    let count = length-entries (number_of o w32 bytes) o bytes 8 spans p.1 in
    let t = entries_take (number_of o w32 bytes) o bytes 8 spans fits p.1 in
    let first : bytes ≡ number o w32 (number_of o w32 bytes) ++ drop 4 bytes = split_number o bytes 0 fits (omega arith) in
    let next : drop 4 bytes ≡ number o w32 (number_of o w32 (drop 4 bytes)) ++ drop 8 bytes = split_number o bytes 4 fits (omega arith) in
    record {
      second = number_of o w32 (drop 4 bytes);
      holds_second = number_below o (drop 4 bytes) (IsBytes-drop 4 bytes fits);
      holds_count = omega (arith, count, number_below o bytes fits);
      holds_spans = t.0;
      spelled = first ∙ ap (λ (n : ℕ). number o w32 n ++ drop 4 bytes) (sym count) ∙ ap (λ (x : List ℕ). number o w32 (length spans) ++ x) (next ∙ ap (λ (x : List ℕ). number o w32 (number_of o w32 (drop 4 bytes)) ++ x) t.1);
    }

-- ---- one or the other

either_of : (o : Order) (bytes : List ℕ) (r : Result (List (ℕ × ℕ)) Place) → IsBytes bytes → index_at o bytes ≡ r → ((spans : List (ℕ × ℕ)) × IsRowIndex o spans bytes) ⊎ ((place : Place) × FirstIndexFault o bytes place)
either_of o bytes (Ok spans) fits e = inl (spans, index_takes o spans bytes fits e)
either_of o bytes (Err p) fits e = inr (p, index_faults o bytes p e)

ok_err : (r : Result (List (ℕ × ℕ)) Place) (x : List (ℕ × ℕ)) (p : Place) → r ≡ Ok x → r ≡ Err p → ⊥
ok_err r x p e f = cc

err_err : (r : Result (List (ℕ × ℕ)) Place) (p q : Place) → r ≡ Err p → r ≡ Err q → p ≡ q
err_err r p q e f = cc

pub index_decided : (o : Order) (bytes : List ℕ) → IsBytes bytes → DecidesIndex o bytes
index_decided o bytes fits = record {
  either = either_of o bytes (index_at o bytes) fits refl;
  never_both = λ spans p i f. ok_err _ spans p (index_again o spans bytes i) (fault_refuses o bytes p f);
  one_list = λ ss ts i j. ok_is {x = ss} {y = ts} (sym (index_again o ss bytes i) ∙ index_again o ts bytes j);
  one_fault = λ p q e f. err_err _ p q (fault_refuses o bytes p e) (fault_refuses o bytes q f);
}

-- ---- what opening answers

abbrev whole : List (ℕ × ℕ) → List (ℕ × ℕ)
whole spans = spans

pub opened_is_spelled : (r : Result (List (ℕ × ℕ)) Place) (o : Order) (bytes : List ℕ) → IsBytes bytes → Gives whole r (index_at o bytes) → IfOk r (λ spans. IsRowIndex o spans bytes)
opened_is_spelled (Ok spans) o bytes fits e = index_takes o spans bytes fits e
opened_is_spelled (Err p) o bytes fits e = tt

pub spelled_is_opened : (r : Result (List (ℕ × ℕ)) Place) (o : Order) (bytes : List ℕ) (spans : List (ℕ × ℕ)) → IsRowIndex o spans bytes → Gives whole r (index_at o bytes) → Gives whole r (Ok spans)
spelled_is_opened r o bytes spans i e = let P : Result (List (ℕ × ℕ)) Place → Type 0 = λ (x : Result (List (ℕ × ℕ)) Place). Gives whole r x in subst P (index_again o spans bytes i) e

pub refused_is_faulty : (r : Result (List (ℕ × ℕ)) Place) (o : Order) (bytes : List ℕ) → Gives whole r (index_at o bytes) → IfErr r (λ p. FirstIndexFault o bytes p)
refused_is_faulty (Ok spans) o bytes e = tt
refused_is_faulty (Err p) o bytes e = index_faults o bytes p e
