-- The columns and the header text that are read are spelled so, and what is spelled so is read.
use Rattle.std.proofs.Common.{◌≡◌, ℕ, zero, suc, ◌+◌, ◌-◌, ◌<◌, ◌≤◌, Bool, true, false, not, cond, ltb, nat_eq, List, [], ◌∷◌, ◌++◌, length, drop, Some, None, Result, Ok, refl, sym, ap, subst, ◌∙◌, append_assoc, arith, inl, inr}
use Rattle.std.specs.Prelude.{position, ◌||◌}
use Rattle.std.specs.List.{list_any, list_all, position_or_len, starts_with}
use Rattle.std.proofs.lemmas.Bool.{le-ltb, ltb-false, eqb-true, ne_eqb}
use Rattle.std.proofs.lemmas.List.{drop_at, drop-drop, length-append, append-nil}
use Rattle.vpf_base.specs.Limits.{most_columns}
use Rattle.vpf_base.proofs.Results.{passed, bind_ok, ok_is}
use Rattle.vpf_base.proofs.Booleans.{both, neither, tested}
use Rattle.vpf_base.specs.Results.{◌>>=◌}
use Rattle.vpf_triplet.specs.declared.places.Place.{Place}
use Rattle.vpf_triplet.specs.declared.places.Code.TheVariants as codes
use Rattle.vpf_triplet.specs.Kinds.{kind_text}
use Rattle.vpf_triplet.specs.Places.{fault}
use Rattle.vpf_head.specs.declared.items.Form.TheVariants.{Name}
use Rattle.vpf_head.specs.Bytes.{semicolon, comma, equals}
use Rattle.vpf_head.specs.Forms.{is_stop}
use Rattle.vpf_head.specs.Head.{Col}
use Rattle.vpf_head.specs.Reading.{closes, column_at, columns_at, end_by, end_at}
use Rattle.vpf_head.specs.Spelling.{IsName, ending_text, IsColumn, IsColumns}
use Rattle.vpf_head.specs.Texts.{is_blank}
use Rattle.vpf_head.proofs.ColumnLaws.{Spans, column_again, column_takes}
use Rattle.vpf_head.proofs.Loop.{is_done, goes_on}

-- ---- columns

pub closing : (text rest : List ℕ) (at : ℕ) → drop at text ≡ semicolon ∷ rest → closes text at ≡ true
closing text rest at e = rw e refl

not_closing : (text : List ℕ) (at : ℕ) (name rest : List ℕ) → IsName Name name → 0 < length name → drop at text ≡ name ++ rest → closes text at ≡ false
not_closing text at [] rest n h e = absurd (omega arith)
not_closing text at (b ∷ name) rest n h e =
    let k : nat_eq semicolon b ≡ false = ne_eqb semicolon b (λ z. absurd (let q = subst (λ (x : ℕ). list_any (is_stop Name) (x ∷ name) ≡ false) (sym z) n.text.open_ended in cc)) in
    rw (e, k) refl

pub column_opens : (before : List Col) (c : Col) (bytes text : List ℕ) (at : ℕ) (rest : List ℕ) → IsColumn before c bytes → drop at text ≡ bytes ++ rest → closes text at ≡ false
column_opens before c bytes text at rest s e =
    let more = equals ∷ (kind_text c.kind ++ comma ∷ (s.count ++ comma ∷ (s.letter ∷ comma ∷ (c.description ++ comma ∷ (s.values ++ comma ∷ (s.theme ++ ending_text s.ending)))))) in
    not_closing text at c.name (more ++ rest) s.name_name s.name_some (e ∙ ap (λ (b : List ℕ). b ++ rest) s.spelled ∙ append_assoc c.name more rest)

abbrev columns : List Col → ℕ → Result (List Col × ℕ) Place
columns cs at = Ok (cs, at)

pub columns_again : (room : ℕ) (before cs : List Col) (text : List ℕ) (at : ℕ) (bytes rest : List ℕ) → length cs ≤ room → IsColumns before cs bytes → drop at text ≡ bytes ++ semicolon ∷ rest → columns_at room before text at ≡ Ok (before ++ cs, at + length bytes)
columns_again room before [] text at bytes rest few s e =
    let here : drop at text ≡ semicolon ∷ rest = e ∙ ap (λ (b : List ℕ). b ++ semicolon ∷ rest) s in
    let z : at ≡ at + length bytes = omega (arith, ap length s) in
    is_done room before text at (closing text rest at here) ∙ rw (append-nil before) (ap (columns before) z)
columns_again room before (c ∷ cs) text at bytes rest few s e =
    let split : drop at text ≡ s.first ++ (s.rest ++ semicolon ∷ rest) = e ∙ ap (λ (b : List ℕ). b ++ semicolon ∷ rest) s.parts ∙ append_assoc s.first s.rest (semicolon ∷ rest) in
    let n = at + length s.first in
    let one = column_again before c text at s.first (s.rest ++ semicolon ∷ rest) s.first_is split in
    let after : drop n text ≡ s.rest ++ semicolon ∷ rest = sym (drop-drop (length s.first) at text) ∙ ap (drop (length s.first)) split ∙ drop_at s.first (s.rest ++ semicolon ∷ rest) (length s.first) refl in
    let others = columns_again (room - 1) (before ++ c ∷ []) cs text n s.rest rest (omega arith) s.rest_is after in
    let len : n + length s.rest ≡ at + length bytes = omega (arith, ap length s.parts, length-append s.first s.rest) in
    goes_on room before text at c n (λ z. omega arith) (column_opens before c s.first text at (s.rest ++ semicolon ∷ rest) s.first_is split) one
    ∙ others ∙ rw (append_assoc before (c ∷ []) cs) (ap (columns (before ++ c ∷ cs)) len)

closed_front : (l : List ℕ) → starts_with nat_eq l (semicolon ∷ []) ≡ true → l ≡ semicolon ∷ drop 1 l
closed_front [] e = absurd cc
closed_front (b ∷ l) e = let z : b ≡ semicolon = sym (eqb-true semicolon b (both (nat_eq semicolon b) true e).0) in ap (λ (x : ℕ). x ∷ l) z

pub closing_split : (text : List ℕ) (at : ℕ) → closes text at ≡ true → drop at text ≡ semicolon ∷ drop (at + 1) text
closing_split text at e = closed_front (drop at text) e ∙ ap (λ (l : List ℕ). semicolon ∷ l) (drop-drop 1 at text)

-- what the columns add to those before
pub record TakesColumns (room : ℕ) (before all : List Col) (text : List ℕ) (at past : ℕ) : Type 0 where
  pub more : List Col
  pub is : all ≡ before ++ more
  pub few : length more ≤ room
  pub span : Spans (IsColumns before more) text at past
  pub closed : closes text past ≡ true

none_more : (room : ℕ) (before : List Col) (text : List ℕ) (at : ℕ) (all : List Col) (past : ℕ) → closes text at ≡ true → columns before at ≡ columns all past → TakesColumns room before all text at past
none_more room before text at all past closed e =
    subst (λ (x : List Col × ℕ). TakesColumns room before x.0 text at x.1) (ok_is e)
    (record { more = []; is = sym (append-nil before); few = omega arith; span = record { bytes = []; is = refl; split = refl; past_is = omega arith }; closed = closed })

joined : (before : List Col) (c : Col) (more : List Col) (text : List ℕ) (at n past : ℕ) → Spans (IsColumn before c) text at n → Spans (IsColumns (before ++ c ∷ []) more) text n past → Spans (IsColumns before (c ∷ more)) text at past
joined before c more text at n past a b = record {
  bytes = a.bytes ++ b.bytes;
  is = record { first = a.bytes; rest = b.bytes; parts = refl; first_is = a.is; rest_is = b.is };
  split = a.split ∙ ap (λ (x : List ℕ). a.bytes ++ x) b.split ∙ sym (append_assoc a.bytes b.bytes (drop past text));
  past_is = omega (arith, a.past_is, b.past_is, length-append a.bytes b.bytes);
}

pub columns_take : (room : ℕ) (before : List Col) (text : List ℕ) (at : ℕ) (all : List Col) (past : ℕ) → columns_at room before text at ≡ Ok (all, past) → TakesColumns room before all text at past
unfolding columns_at
columns_take zero before text at all past h =
    let p = passed (closes text at) (fault at (codes.LimitColumns (most_columns + 1))) (columns before at) (all, past) h in
    none_more zero before text at all past p.0 p.1
columns_take (suc room) before text at all past h =
    elim (tested (closes text at) (columns before at) (column_at before text at >>= λ c. columns_at room (before ++ c.0 ∷ []) text c.1) (columns all past) h) [
      | inl t ↦ none_more (suc room) before text at all past t.0 t.1
      | inr t ↦
          let b = bind_ok (column_at before text at) (λ c. columns_at room (before ++ c.0 ∷ []) text c.1) (all, past) t.1 in
          let one = column_takes before text at b.0.0 b.0.1 b.1 in
          let m = columns_take room (before ++ b.0.0 ∷ []) text b.0.1 all past b.2 in
          record {
            more = b.0.0 ∷ m.more;
            is = m.is ∙ append_assoc before (b.0.0 ∷ []) m.more;
            few = (let f = m.few in omega arith);
            span = joined before b.0.0 m.more text at b.0.1 past one m.span;
            closed = m.closed;
          }
    ]

-- ---- what follows the columns

none_passes : {X : Type 0} (p : X → Bool) (xs : List X) → ltb (position_or_len p xs) (length xs) ≡ false → list_any p xs ≡ false
none_passes p [] e = refl
none_passes p (x ∷ xs) e =
    elim (p x) as (λ b. ltb (cond (not b) (1 + position_or_len p xs) 0) (suc (length xs)) ≡ false → (b || list_any p xs) ≡ false) [
      | true ↦ λ f. absurd (let k = ltb-false 0 (suc (length xs)) f in omega arith)
      | false ↦ λ f. none_passes p xs (let k = ltb-false (1 + position_or_len p xs) (suc (length xs)) f in le-ltb (position_or_len p xs) (length xs) (omega arith))
    ] e

nowhere_by : {X : Type 0} (p : X → Bool) (xs : List X) (t : Bool) → ltb (position_or_len p xs) (length xs) ≡ t → cond t (Some (position_or_len p xs)) None ≡ None → list_any p xs ≡ false
nowhere_by p xs true e f = absurd cc
nowhere_by p xs false e f = none_passes p xs e

pub nowhere : {X : Type 0} (p : X → Bool) (xs : List X) → position p xs ≡ None → list_any p xs ≡ false
nowhere p xs e = nowhere_by p xs (ltb (position_or_len p xs) (length xs)) refl e

pub passes_nowhere : {X : Type 0} (p : X → Bool) (xs : List X) → list_any p xs ≡ false → position_or_len p xs ≡ length xs
passes_nowhere p [] e = refl
passes_nowhere p (x ∷ xs) e =
    let t = neither (p x) (list_any p xs) e in
    let k = passes_nowhere p xs t.1 in
    rw (t.0, k) (omega arith)

pub all_blank : (xs : List ℕ) → list_all is_blank xs ≡ true → list_any (λ b. not (is_blank b)) xs ≡ false
all_blank [] e = refl
all_blank (x ∷ xs) e = let t = both (is_blank x) (list_all is_blank xs) e in rw (t.0, all_blank xs t.1) refl

pub blank_all : (xs : List ℕ) → list_any (λ b. not (is_blank b)) xs ≡ false → list_all is_blank xs ≡ true
blank_all [] e = refl
blank_all (x ∷ xs) e = let t = neither (not (is_blank x)) (list_any (λ b. not (is_blank b)) xs) e in rw (not_false (is_blank x) t.0, blank_all xs t.1) refl
  where
    not_false : (b : Bool) → not b ≡ false → b ≡ true
    not_false true e = refl
    not_false false e = absurd cc

pub end_again : (text : List ℕ) (at : ℕ) → list_all is_blank (drop at text) ≡ true → end_at text at ≡ Ok (length text)
end_again text at e =
    let k = passes_nowhere (λ b. not (is_blank b)) (drop at text) (all_blank (drop at text) e) in
    let lt : ltb (position_or_len (λ b. not (is_blank b)) (drop at text)) (length (drop at text)) ≡ false = le-ltb _ _ (omega arith) in
    rw lt refl

pub end_takes : (text : List ℕ) (at past : ℕ) → end_at text at ≡ Ok past → (list_all is_blank (drop at text) ≡ true) × (past ≡ length text)
end_takes text at past e = by (ltb (position_or_len (λ b. not (is_blank b)) (drop at text)) (length (drop at text))) refl e
  where
    by : (t : Bool) → ltb (position_or_len (λ b. not (is_blank b)) (drop at text)) (length (drop at text)) ≡ t → end_by text at (cond t (Some (position_or_len (λ b. not (is_blank b)) (drop at text))) None) ≡ Ok past → (list_all is_blank (drop at text) ≡ true) × (past ≡ length text)
    by true f g = absurd cc
    by false f g = (blank_all (drop at text) (none_passes (λ b. not (is_blank b)) (drop at text) f), sym (ok_is g))
