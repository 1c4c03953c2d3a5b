-- At its first fault a header is refused.
use Rattle.std.proofs.Common.{◌≡◌, ℕ, suc, ◌+◌, ◌-◌, ◌≤◌, Bool, true, false, not, List, [], ◌∷◌, ◌++◌, length, take, drop, Some, Ok, Err, refl, sym, ap, ◌∙◌, append_assoc, append-nil, arith}
use Rattle.std.specs.Prelude.{position}
use Rattle.std.specs.List.{list_any, list_all}
use Rattle.std.proofs.lemmas.Bool.{lt-ltb, le-ltb}
use Rattle.std.proofs.lemmas.List.{drop_at, drop-drop, length-append}
use Rattle.vpf_base.specs.Limits.{longest_text, most_columns}
use Rattle.vpf_base.specs.declared.orders.Order.{Order}
use Rattle.vpf_triplet.specs.declared.places.Place.{Place}
use Rattle.vpf_triplet.specs.declared.places.Code.{Code}
use Rattle.vpf_triplet.specs.declared.places.Code.TheVariants as codes
use Rattle.vpf_triplet.specs.Places.{fault}
use Rattle.vpf_head.specs.declared.items.Form.TheVariants.{Heading}
use Rattle.vpf_head.specs.Bytes.{semicolon}
use Rattle.vpf_head.specs.Faults as faults
use Rattle.vpf_head.specs.Faults.{Lies, IsFurther, NextFault, TextFault, FirstHeaderFault}
use Rattle.vpf_head.specs.Head.{Col, holds_data}
use Rattle.vpf_head.specs.Items.{text_at, name_at}
use Rattle.vpf_head.specs.Reading.{closes, columns_at, end_by, close_at, after_mark, order_of, head_at, header_of}
use Rattle.vpf_head.specs.Spelling.{IsText, IsName, IsColumns}
use Rattle.vpf_head.specs.Texts.{is_blank}
use Rattle.vpf_head.proofs.ColumnLaws.{column_again}
use Rattle.vpf_head.proofs.ColumnRefusals.{text_refused, name_refused, column_refused}
use Rattle.vpf_head.proofs.HeadLaws.{closing, closing_split, column_opens, all_blank}
use Rattle.vpf_head.proofs.ItemLaws.{position_is, text_again, name_again, behind}
use Rattle.vpf_head.proofs.Loop.{is_done, is_full, goes_on, gives_up}

-- ---- columns

not_closed : (text : List ℕ) (at : ℕ) → IsFurther (drop at text) → closes text at ≡ false
not_closed text at h = by (closes text at) refl
  where
    by : (t : Bool) → closes text at ≡ t → closes text at ≡ false
    by true q = absurd (h (drop (at + 1) text) (closing_split text at q))
    by false q = q

-- columns that are spelled are read, whatever follows them
columns_reach : (room : ℕ) (before cs : List Col) (text : List ℕ) (at : ℕ) (bytes rest : List ℕ) → length cs ≤ room → IsColumns before cs bytes → drop at text ≡ bytes ++ rest
    → columns_at room before text at ≡ columns_at (room - length cs) (before ++ cs) text (at + length bytes)
columns_reach room before [] text at bytes rest few s e =
    let z : at + length bytes ≡ at = omega (arith, ap length s) in
    let all : room - 0 ≡ room = omega arith in
    rw (append-nil before, z, all) refl
columns_reach room before (c ∷ cs) text at bytes rest few s e =
    let split : drop at text ≡ s.first ++ (s.rest ++ rest) = e ∙ ap (λ (b : List ℕ). b ++ rest) s.parts ∙ append_assoc s.first s.rest rest in
    let n = at + length s.first in
    let one = column_again before c text at s.first (s.rest ++ rest) s.first_is split in
    let after : drop n text ≡ s.rest ++ rest = sym (drop-drop (length s.first) at text) ∙ ap (drop (length s.first)) split ∙ drop_at s.first (s.rest ++ rest) (length s.first) refl in
    let others = columns_reach (room - 1) (before ++ c ∷ []) cs text n s.rest rest (omega arith) s.rest_is after in
    let len : n + length s.rest ≡ at + length bytes = omega (arith, ap length s.parts, length-append s.first s.rest) in
    let left : room - 1 - length cs ≡ room - suc (length cs) = omega arith in
    goes_on room before text at c n (λ z. omega arith) (column_opens before c s.first text at (s.rest ++ rest) s.first_is split) one
    ∙ others ∙ rw (append_assoc before (c ∷ []) cs, len, left) refl

-- reading goes on to the closing `;`, and stops behind the columns; or it stops in them
data Stopped (room : ℕ) (before : List Col) (text : List ℕ) (at : ℕ) (p : Place) : Type 0 where
  in_columns : columns_at room before text at ≡ Err p → Stopped room before text at p
  behind_them : columns_at room before text at ≡ Ok (before, at) → close_at before text at ≡ Err p → Stopped room before text at p

blank_end : (before : List Col) (text : List ℕ) (at : ℕ) (blanks : List ℕ) (b : ℕ) (rest : List ℕ) → drop at text ≡ semicolon ∷ (blanks ++ b ∷ rest) → list_any holds_data before ≡ true → list_all is_blank blanks ≡ true → is_blank b ≡ false
    → close_at before text at ≡ Err (fault (at + 1 + length blanks) codes.AfterHeader)
blank_end before text at blanks b rest e filled blank other =
    let after : drop (at + 1) text ≡ blanks ++ b ∷ rest = sym (drop-drop 1 at text) ∙ ap (drop 1) e in
    let found : position (λ x. not (is_blank x)) (drop (at + 1) text) ≡ Some (length blanks) = ap (position (λ x. not (is_blank x))) after ∙ position_is (λ x. not (is_blank x)) blanks rest b (all_blank blanks blank) (ap not other) in
    rw filled (ap (end_by text (at + 1)) found)

next_stops : (room : ℕ) (before : List Col) (text : List ℕ) (at here : ℕ) (code : Code) → room ≡ most_columns - length before → NextFault before text at here code → Stopped room before text at (fault here code)
next_stops room before text at here code z (faults.too_many full further) = in_columns (is_full room before text at (omega (arith, z, full)) (not_closed text at further))
next_stops room before text at here code z (faults.in_column next bytes h c few further b lies refuses) =
    in_columns (gives_up room before text at (fault here code) (λ none. omega (arith, z, few)) (not_closed text at further) (column_refused before text at here next bytes code b lies refuses))
next_stops room before text at here code z (faults.no_data rest few e empty) = behind_them (is_done room before text at (closing text rest at e)) (rw empty refl)
next_stops room before text at here code z (faults.after_columns blanks b rest few e filled blank other) =
    behind_them (is_done room before text at (closing text (blanks ++ b ∷ rest) at e)) (blank_end before text at blanks b rest e filled blank other)

few_before : (before : List Col) (text : List ℕ) (at here : ℕ) (code : Code) → NextFault before text at here code → length before ≤ most_columns
few_before before text at here code (faults.too_many full further) = omega (arith, full)
few_before before text at here code (faults.in_column next bytes h c few further b lies refuses) = omega (arith, few)
few_before before text at here code (faults.no_data rest few e empty) = few
few_before before text at here code (faults.after_columns blanks b rest few e filled blank other) = few

-- ---- the text

-- the description and the narrative are spelled, and these columns; here they end
record Fronts (text w n bytes : List ℕ) (at : ℕ) : Type 0 where
  second : ℕ
  third : ℕ
  narrative : List ℕ
  first_split : drop (after_mark text) text ≡ w ++ semicolon ∷ narrative
  second_is : after_mark text + length w + 1 ≡ second
  second_split : drop second text ≡ n ++ semicolon ∷ (bytes ++ drop at text)
  third_is : second + length n + 1 ≡ third
  third_split : drop third text ≡ bytes ++ drop at text
  at_is : third + length bytes ≡ at

fronts : (text w n bytes : List ℕ) (at : ℕ) → Lies text (after_mark text) at ((w ++ semicolon ∷ []) ++ ((n ++ semicolon ∷ []) ++ bytes)) → Fronts text w n bytes at
fronts text w n bytes at l =
    let more = drop at text in
    let from = after_mark text in
    let tail : ((n ++ semicolon ∷ []) ++ bytes) ++ more ≡ n ++ semicolon ∷ (bytes ++ more) = append_assoc (n ++ semicolon ∷ []) bytes more ∙ append_assoc n (semicolon ∷ []) (bytes ++ more) in
    let one : drop from text ≡ w ++ semicolon ∷ (n ++ semicolon ∷ (bytes ++ more)) =
    l.split ∙ append_assoc (w ++ semicolon ∷ []) ((n ++ semicolon ∷ []) ++ bytes) more ∙ ap (λ (r : List ℕ). (w ++ semicolon ∷ []) ++ r) tail ∙ append_assoc w (semicolon ∷ []) (n ++ semicolon ∷ (bytes ++ more)) in
    let two = behind text from w (n ++ semicolon ∷ (bytes ++ more)) semicolon one in
    let three = behind text (from + length w + 1) n (bytes ++ more) semicolon two in
    record {
      second = from + length w + 1;
      third = from + length w + 1 + length n + 1;
      narrative = n ++ semicolon ∷ (bytes ++ more);
      first_split = one;
      second_is = refl;
      second_split = two;
      third_is = refl;
      third_split = three;
      at_is = omega (arith, l.size, length-append (w ++ semicolon ∷ []) ((n ++ semicolon ∷ []) ++ bytes), length-append (n ++ semicolon ∷ []) bytes, length-append w (semicolon ∷ []), length-append n (semicolon ∷ []));
    }

description_stops : (order : Order) (text : List ℕ) (p : Place) → text_at Heading text (after_mark text) ≡ Err p → head_at order text ≡ Err p
unfolding head_at
description_stops order text p e = rw e refl

narrative_stops : (order : Order) (text : List ℕ) (w rest : List ℕ) (here : ℕ) (p : Place) → IsText Heading w → drop (after_mark text) text ≡ w ++ semicolon ∷ rest → after_mark text + length w + 1 ≡ here → name_at Heading text here ≡ Err p → head_at order text ≡ Err p
unfolding head_at
narrative_stops order text w rest here p t e z f = rw (text_again Heading semicolon text (after_mark text) w rest refl refl t e, z, f) refl

columns_stop : (order : Order) (text w n bytes : List ℕ) (at : ℕ) (p : Place) → IsText Heading w → IsName Heading n → (f : Fronts text w n bytes at) → columns_at most_columns [] text f.third ≡ Err p → head_at order text ≡ Err p
unfolding head_at
columns_stop order text w n bytes at p t k f e =
    rw (text_again Heading semicolon text (after_mark text) w f.narrative refl refl t f.first_split, f.second_is, name_again Heading semicolon text f.second n (bytes ++ drop at text) refl refl k f.second_split, f.third_is, e) refl

end_stops : (order : Order) (text w n bytes : List ℕ) (at : ℕ) (before : List Col) (p : Place) → IsText Heading w → IsName Heading n → (f : Fronts text w n bytes at) → columns_at most_columns [] text f.third ≡ Ok (before, at) → close_at before text at ≡ Err p
    → head_at order text ≡ Err p
unfolding head_at
end_stops order text w n bytes at before p t k f e g =
    rw (text_again Heading semicolon text (after_mark text) w f.narrative refl refl t f.first_split, f.second_is, name_again Heading semicolon text f.second n (bytes ++ drop at text) refl refl k f.second_split, f.third_is, e, g) refl

text_stops : (order : Order) (text : List ℕ) (at : ℕ) (code : Code) → TextFault text at code → head_at order text ≡ Err (fault at code)
text_stops order text at code (faults.in_description c f) = description_stops order text (fault at code) (text_refused Heading text at code f)
text_stops order text at code (faults.in_narrative w here c t l f) =
    let split : drop (after_mark text) text ≡ w ++ semicolon ∷ drop at text = l.split ∙ append_assoc w (semicolon ∷ []) (drop at text) in
    narrative_stops order text w (drop at text) at (fault at code) t split (omega (arith, l.size, length-append w (semicolon ∷ []))) (name_refused Heading text at code f)
text_stops order text here code (faults.in_columns w n bytes before at h c t k cols l f) = by (next_stops (most_columns - length before) before text at here code refl f)
  where
    front : Fronts text w n bytes at
    front = fronts text w n bytes at l

    reach : columns_at most_columns [] text front.third ≡ columns_at (most_columns - length before) before text at
    reach = columns_reach most_columns [] before text front.third bytes (drop at text) (few_before before text at here code f) cols front.third_split ∙ ap (columns_at (most_columns - length before) before text) front.at_is

    by : Stopped (most_columns - length before) before text at (fault here code) → head_at order text ≡ Err (fault here code)
    by (in_columns e) = columns_stop order text w n bytes at (fault here code) t k front (reach ∙ e)
    by (behind_them e g) = end_stops order text w n bytes at before (fault here code) t k front (reach ∙ e) g

-- ---- the file

pub header_refused : (bytes : List ℕ) (p : Place) → FirstHeaderFault bytes p → header_of bytes ≡ Err p
unfolding header_of
header_refused bytes p (faults.number_cut h) = rw (lt-ltb (length bytes) 4 h) refl
header_refused bytes p (faults.limit_header h over) = rw (le-ltb (length bytes) 4 h, lt-ltb longest_text (faults.length_number bytes) over) refl
header_refused bytes p (faults.header_cut h short cut) = rw (le-ltb (length bytes) 4 h, le-ltb longest_text (faults.length_number bytes) short, lt-ltb (length bytes) (4 + faults.length_number bytes) cut) refl
header_refused bytes p (faults.in_text at code short whole f) =
    rw (le-ltb (length bytes) 4 (omega (arith, whole)), le-ltb longest_text (faults.length_number bytes) short, le-ltb (length bytes) (4 + faults.length_number bytes) whole) (text_stops (order_of bytes) (take (4 + faults.length_number bytes) bytes) at code f)
