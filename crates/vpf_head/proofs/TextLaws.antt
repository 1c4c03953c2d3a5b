-- A header text that is read is spelled so, and what is spelled so is read.
use Rattle.std.proofs.Common.{◌≡◌, ℕ, suc, ◌+◌, ◌-◌, ◌≤◌, Bool, true, false, cond, nat_eq, List, [], ◌∷◌, ◌++◌, length, drop, Ok, refl, sym, ap, subst, ◌∙◌, arith, inl, inr}
use Rattle.std.specs.Prelude.{◌||◌}
use Rattle.std.specs.List.{list_any, list_all, starts_with}
use Rattle.std.proofs.lemmas.Bool.{eqb-true}
use Rattle.std.proofs.lemmas.List.{drop-drop, length-append, length-drop, append-nil}
use Rattle.vpf_base.specs.Limits.{most_columns}
use Rattle.vpf_base.proofs.Results.{passed, bind_ok, ok_is}
use Rattle.vpf_base.proofs.Booleans.{both, neither}
use Rattle.vpf_base.specs.declared.orders.Order.{Order}
use Rattle.vpf_base.specs.declared.orders.Order.TheVariants.{Little, Big}
use Rattle.vpf_triplet.specs.declared.places.Code.TheVariants as codes
use Rattle.vpf_triplet.specs.Places.{fault}
use Rattle.vpf_head.specs.declared.items.Form.TheVariants.{Heading}
use Rattle.vpf_head.specs.Bytes.{semicolon}
use Rattle.vpf_head.specs.Fields.{present}
use Rattle.vpf_head.specs.Head.{Head, Col, holds_data}
use Rattle.vpf_head.specs.Items.{Item, text_at, name_at}
use Rattle.vpf_head.specs.Reading.{columns_at, end_at, close_at, after_mark, order_of, head_at}
use Rattle.vpf_head.specs.Spelling.{IsText, IsName, IsColumns, mark_of, IsMark, IsHeaderText}
use Rattle.vpf_head.specs.Texts.{little_mark, big_mark, has_mark, is_blank}
use Rattle.vpf_head.proofs.ItemLaws.{text_again, name_again, behind, Takes, text_takes, name_takes}
use Rattle.vpf_head.proofs.HeadLaws.{columns_again, closing_split, TakesColumns, columns_take, end_again, end_takes}

-- ---- the mark

-- the items begin here, after the mark of this order or none
pub record Marks (order : Order) (text items : List ℕ) : Type 0 where
  pub order_is : order_of text ≡ order
  pub items_at : drop (after_mark text) text ≡ items

pub mark_again : (order : Order) (mark items rest text : List ℕ) → 2 ≤ length items → IsMark order mark items → drop 4 text ≡ mark ++ (items ++ rest) → Marks order text (items ++ rest)
mark_again order mark items rest text long is e = elim is [
  | inl given ↦ marked order text (items ++ rest) (e ∙ ap (λ (m : List ℕ). m ++ (items ++ rest)) given)
  | inr missing ↦
      let order_is = missing.1 in
      let here : drop 4 text ≡ items ++ rest = e ∙ ap (λ (m : List ℕ). m ++ (items ++ rest)) missing.0 in
      subst (λ (o : Order). Marks o text (items ++ rest)) (sym order_is) (unmarked items rest text long missing.2 here)
]
  where
    marked : (o : Order) (t r : List ℕ) → drop 4 t ≡ mark_of o ++ r → Marks o t r
    marked Little t r f = record { order_is = rw f refl; items_at = rw f (sym (drop-drop 2 4 t) ∙ ap (drop 2) f) }
    marked Big t r f = record { order_is = rw f refl; items_at = rw f (sym (drop-drop 2 4 t) ∙ ap (drop 2) f) }

    unmarked : (i r t : List ℕ) → 2 ≤ length i → has_mark i ≡ false → drop 4 t ≡ i ++ r → Marks Little t (i ++ r)
    unmarked [] r t l bare f = absurd (omega arith)
    unmarked (a ∷ []) r t l bare f = absurd (omega arith)
    unmarked (a ∷ b ∷ i) r t l bare f =
        let k = neither (starts_with nat_eq (a ∷ b ∷ i) little_mark) (starts_with nat_eq (a ∷ b ∷ i) big_mark) bare in
        let little = k.0 in
        let big = k.1 in
        record { order_is = rw (f, big) refl; items_at = rw (f, little, big) f }

-- the mark of a text, or none, and the items after it
record TakesMark (text : List ℕ) (order : Order) (at : ℕ) : Type 0 where
  pub mark : List ℕ
  pub split : drop 4 text ≡ mark ++ drop at text
  pub is : IsMark order mark (drop at text)

front_is : (l : List ℕ) (x y : ℕ) → starts_with nat_eq l (x ∷ y ∷ []) ≡ true → l ≡ x ∷ y ∷ drop 2 l
front_is [] x y e = absurd cc
front_is (a ∷ []) x y e = absurd (let t = both (nat_eq x a) false e in let f = t.1 in cc)
front_is (a ∷ b ∷ l) x y e =
    let t = both (nat_eq x a) (starts_with nat_eq (b ∷ l) (y ∷ [])) e in
    let p : a ≡ x = sym (eqb-true x a t.0) in
    let q : b ≡ y = sym (eqb-true y b (both (nat_eq y b) true t.1).0) in
    rw (p, q) refl

not_both : (l r : List ℕ) → l ≡ 76 ∷ 59 ∷ r → starts_with nat_eq l big_mark ≡ false
not_both l r e = rw e refl

mark_taken : (text : List ℕ) (little big : Bool) → starts_with nat_eq (drop 4 text) little_mark ≡ little → starts_with nat_eq (drop 4 text) big_mark ≡ big → TakesMark text (cond big Big Little) (cond (little || big) 6 4)
mark_taken text true true l b = absurd (let f = not_both (drop 4 text) (drop 2 (drop 4 text)) (front_is (drop 4 text) 76 59 l) in let g : true ≡ false = sym b ∙ f in cc)
mark_taken text true false l b = record { mark = little_mark; split = front_is (drop 4 text) 76 59 l ∙ ap (λ (x : List ℕ). 76 ∷ 59 ∷ x) (drop-drop 2 4 text); is = inl refl }
mark_taken text false true l b = record { mark = big_mark; split = front_is (drop 4 text) 77 59 b ∙ ap (λ (x : List ℕ). 77 ∷ 59 ∷ x) (drop-drop 2 4 text); is = inl refl }
mark_taken text false false l b = record { mark = []; split = refl; is = inr (refl, refl, rw (l, b) refl) }

mark_takes : (text : List ℕ) → TakesMark text (order_of text) (after_mark text)
mark_takes text = mark_taken text (starts_with nat_eq (drop 4 text) little_mark) (starts_with nat_eq (drop 4 text) big_mark) refl refl

-- ---- the text

pub head_again : (h : Head) (t text : List ℕ) → IsHeaderText h t → drop 4 text ≡ t → head_at h.order text ≡ Ok (h, length text)
unfolding head_at
head_again h t text s e =
    let t3 = s.columns ++ semicolon ∷ s.blanks in
    let t2 = s.narrative ++ semicolon ∷ t3 in
    let long : 2 ≤ length s.items = omega (arith, ap length s.items_are, length-append h.description (semicolon ∷ t2), length-append s.narrative (semicolon ∷ t3)) in
    let m = mark_again h.order s.mark s.items [] text long s.mark_is (e ∙ s.spelled ∙ ap (λ (x : List ℕ). s.mark ++ x) (sym (append-nil s.items))) in
    let at = after_mark text in
    let e1 : drop at text ≡ h.description ++ semicolon ∷ t2 = m.items_at ∙ append-nil s.items ∙ s.items_are in
    let n1 = at + length h.description + 1 in
    let e2 : drop n1 text ≡ t2 = behind text at h.description t2 semicolon e1 in
    let n2 = n1 + length s.narrative + 1 in
    let e3 : drop n2 text ≡ t3 = behind text n1 s.narrative t3 semicolon e2 in
    let cols = columns_again most_columns [] h.columns text n2 s.columns s.blanks s.columns_few s.columns_are e3 in
    let e4 : drop (n2 + length s.columns + 1) text ≡ s.blanks = behind text n2 s.columns s.blanks semicolon e3 in
    let end = end_again text (n2 + length s.columns + 1) (ap (list_all is_blank) e4 ∙ s.blanks_are) in
    rw (
      text_again Heading semicolon text at h.description t2 refl refl s.description_text e1,
      name_again Heading semicolon text n1 s.narrative t3 refl refl s.narrative_name e2,
      s.narrative_is,
      cols,
      s.columns_filled,
      end,
    ) refl

-- a header text that was taken
pub record TakesText (order : Order) (h : Head) (text : List ℕ) : Type 0 where
  pub is : IsHeaderText h (drop 4 text)
  pub order_is : h.order ≡ order

text_spans : (text : List ℕ) (order : Order) (at : ℕ) (description narrative : Item) (columns : List Col) (past : ℕ) → TakesMark text order at → IsText Heading description.text → Takes Heading text at description
    → IsName Heading narrative.text → Takes Heading text description.past narrative → TakesColumns most_columns [] columns text narrative.past past → list_any holds_data columns ≡ true → list_all is_blank (drop (past + 1) text) ≡ true
    → TakesText order (record { order = order; description = description.text; narrative = present narrative.text; columns = columns }) text
text_spans text order at description narrative columns past m dt d nt n c filled blank =
    let blanks = drop (past + 1) text in
    let t3 = c.span.bytes ++ semicolon ∷ blanks in
    let t2 = narrative.text ++ semicolon ∷ t3 in
    let items = description.text ++ semicolon ∷ t2 in
    let stop1 : description.stop ≡ semicolon = eqb-true description.stop semicolon d.may in
    let stop2 : narrative.stop ≡ semicolon = eqb-true narrative.stop semicolon n.may in
    let e3 : drop narrative.past text ≡ t3 = c.span.split ∙ ap (λ (x : List ℕ). c.span.bytes ++ x) (closing_split text past c.closed) in
    let e2 : drop description.past text ≡ t2 = n.split ∙ ap (λ (x : ℕ). narrative.text ++ x ∷ drop narrative.past text) stop2 ∙ ap (λ (x : List ℕ). narrative.text ++ semicolon ∷ x) e3 in
    let e1 : drop at text ≡ items = d.split ∙ ap (λ (x : ℕ). description.text ++ x ∷ drop description.past text) stop1 ∙ ap (λ (x : List ℕ). description.text ++ semicolon ∷ x) e2 in
    let whole : drop 4 text ≡ m.mark ++ items = m.split ∙ ap (λ (x : List ℕ). m.mark ++ x) e1 in
    let more = c.is in
    record {
      is = record {
        mark = m.mark;
        narrative = narrative.text;
        columns = c.span.bytes;
        blanks = blanks;
        description_text = dt;
        narrative_name = nt;
        narrative_is = refl;
        columns_are = subst (λ (x : List Col). IsColumns [] x c.span.bytes) (sym more) c.span.is;
        columns_few = subst (λ (x : List Col). length x ≤ most_columns) (sym more) c.few;
        columns_filled = filled;
        blanks_are = blank;
        items = items;
        items_are = refl;
        mark_is = subst (IsMark order m.mark) e1 m.is;
        spelled = whole;
      };
      order_is = refl;
    }

pub mark_past : (marked : Bool) → 4 ≤ cond marked 6 4
mark_past true = omega arith
mark_past false = omega arith

-- a text that is read has room for a mark
pub head_long : (order : Order) (text : List ℕ) (h : Head) (past : ℕ) → head_at order text ≡ Ok (h, past) → 6 ≤ length text
unfolding head_at
head_long order text h past e =
    let description = bind_ok (text_at Heading text (after_mark text)) _ (h, past) e in
    let narrative = bind_ok (name_at Heading text description.0.past) _ (h, past) description.2 in
    let cols = bind_ok (columns_at most_columns [] text narrative.0.past) _ (h, past) narrative.2 in
    let d = text_takes Heading text (after_mark text) description.0 description.1 in
    let n = name_takes Heading text description.0.past narrative.0 narrative.1 in
    let c = columns_take most_columns [] text narrative.0.past cols.0.0 cols.0.1 cols.1 in
    room (after_mark text) (length description.0.text) (length narrative.0.text) (length c.span.bytes) description.0.past narrative.0.past cols.0.1 (length text) (length (drop (cols.0.1 + 1) text))
    (mark_past (has_mark (drop 4 text))) d.1.past_is n.1.past_is c.span.past_is (sym (length-drop cols.0.1 text) ∙ ap length (closing_split text cols.0.1 c.closed))
  where
    room : (at a b c p q r whole left : ℕ) → 4 ≤ at → p ≡ at + a + 1 → q ≡ p + b + 1 → r ≡ q + c → whole - r ≡ suc left → 6 ≤ whole
    room at a b c p q r whole left e1 e2 e3 e4 e5 = omega arith

pub head_takes : (text : List ℕ) (h : Head) (past : ℕ) → head_at (order_of text) text ≡ Ok (h, past) → TakesText (order_of text) h text × (past ≡ length text)
unfolding head_at
head_takes text h past e =
    let description = bind_ok (text_at Heading text (after_mark text)) _ (h, past) e in
    let narrative = bind_ok (name_at Heading text description.0.past) _ (h, past) description.2 in
    let cols = bind_ok (columns_at most_columns [] text narrative.0.past) _ (h, past) narrative.2 in
    let close = bind_ok (close_at cols.0.0 text cols.0.1) _ (h, past) cols.2 in
    let d = text_takes Heading text (after_mark text) description.0 description.1 in
    let n = name_takes Heading text description.0.past narrative.0 narrative.1 in
    let c = columns_take most_columns [] text narrative.0.past cols.0.0 cols.0.1 cols.1 in
    let filled = passed (list_any holds_data cols.0.0) (fault cols.0.1 codes.NoData) (end_at text (cols.0.1 + 1)) close.0 close.1 in
    let ended = end_takes text (cols.0.1 + 1) close.0 filled.1 in
    subst (λ (x : Head × ℕ). TakesText (order_of text) x.0 text × (x.1 ≡ length text))
    (ok_is {x = (record { order = order_of text; description = description.0.text; narrative = present narrative.0.text; columns = cols.0.0 }, close.0)} {y = (h, past)} close.2)
    (text_spans text (order_of text) (after_mark text) description.0 narrative.0 cols.0.0 cols.0.1 (mark_takes text) d.0 d.1 n.0 n.1 c filled.0 ended.0, ended.1)
