-- An error of reading a header is its first fault.
use Rattle.std.proofs.Common.{◌≡◌, ℕ, zero, suc, ◌+◌, ◌<◌, ◌≤◌, Bool, true, false, not, cond, ltb, List, [], ◌∷◌, ◌++◌, length, take, drop, get_or, Option, Some, None, Ok, Err, refl, sym, ap, subst, ◌∙◌, append_assoc, arith, inl, inr}
use Rattle.std.specs.Prelude.{position}
use Rattle.std.specs.List.{list_any}
use Rattle.std.proofs.lemmas.Bool.{ltb-true, ltb-false, eqb-true}
use Rattle.std.proofs.lemmas.List.{take-append-drop, drop_more, append-nil, length-append, length-take}
use Rattle.std.proofs.lemmas.List.Quantifiers.{position-Some}
use Rattle.vpf_base.specs.Limits.{longest_text, most_columns}
use Rattle.vpf_base.specs.Results.{◌>>=◌}
use Rattle.vpf_base.proofs.Booleans.{not_true, tested}
use Rattle.vpf_base.proofs.Results.{no_ok, failed, err_is}
use Rattle.vpf_base.specs.declared.orders.Order.{Order}
use Rattle.vpf_triplet.specs.declared.places.Place.{Place}
use Rattle.vpf_triplet.specs.declared.places.Code.{Code}
use Rattle.vpf_triplet.specs.declared.places.Code.TheVariants as codes
use Rattle.vpf_triplet.specs.Places.{fault}
use Rattle.vpf_head.specs.declared.items.Form.TheVariants.{Heading}
use Rattle.vpf_head.specs.Bytes.{semicolon}
use Rattle.vpf_head.specs.Fields.{present}
use Rattle.vpf_head.specs.Head.{Head, Col, holds_data}
use Rattle.vpf_head.specs.Items.{Item, text_at, name_at}
use Rattle.vpf_head.specs.Reading.{closes, column_at, columns_at, end_by, end_at, close_at, after_mark, order_of, head_at, header_of}
use Rattle.vpf_head.specs.Spelling.{IsText, IsName, IsColumn, IsColumns}
use Rattle.vpf_head.specs.Texts.{is_blank}
use Rattle.vpf_head.specs.Faults as faults
use Rattle.vpf_head.specs.Faults.{Lies, IsFurther, NextFault, TextFault, FirstHeaderFault}
use Rattle.vpf_head.proofs.ColumnFaults.{next_ok, column_faults}
use Rattle.vpf_head.proofs.ColumnLaws.{column_takes}
use Rattle.vpf_head.proofs.FaultLaws.{text_faults, name_faults}
use Rattle.vpf_head.proofs.HeadLaws.{closing, closing_split, columns_take, blank_all}
use Rattle.vpf_head.proofs.ItemLaws.{Takes, text_takes, name_takes, none_before}

lies_join : (text : List ℕ) (a b c : ℕ) (x y : List ℕ) → Lies text a b x → Lies text b c y → Lies text a c (x ++ y)
lies_join text a b c x y l m = record {
  split = l.split ∙ ap (λ (r : List ℕ). x ++ r) m.split ∙ sym (append_assoc x y (drop c text));
  size = omega (arith, l.size, m.size, length-append x y);
}

-- a fault after columns that are spelled from this offset on
record AfterColumns (text : List ℕ) (start : ℕ) (p : Place) : Type 0 where
  pub before : List Col
  pub bytes : List ℕ
  pub at : ℕ
  pub here : ℕ
  pub code : Code
  pub columns : IsColumns [] before bytes
  pub lies : Lies text start at bytes
  pub next : NextFault before text at here code
  pub is : p ≡ fault here code

-- ---- columns

columns_push : (front cs : List Col) (bytes : List ℕ) (c : Col) (one : List ℕ) → IsColumns front cs bytes → IsColumn (front ++ cs) c one → IsColumns front (cs ++ c ∷ []) (bytes ++ one)
columns_push front [] bytes c one s k = record {
  first = one;
  rest = [];
  parts = ap (λ (x : List ℕ). x ++ one) s ∙ sym (append-nil one);
  first_is = subst (λ (x : List Col). IsColumn x c one) (append-nil front) k;
  rest_is = refl;
}
columns_push front (x ∷ cs) bytes c one s k = record {
  first = s.first;
  rest = s.rest ++ one;
  parts = ap (λ (y : List ℕ). y ++ one) s.parts ∙ append_assoc s.first s.rest one;
  first_is = s.first_is;
  rest_is = columns_push (front ++ x ∷ []) cs s.rest c one s.rest_is (subst (λ (y : List Col). IsColumn y c one) (sym (append_assoc front (x ∷ []) cs)) k);
}

further : (text : List ℕ) (at : ℕ) → closes text at ≡ false → IsFurther (drop at text)
further text at e rest split = let f : true ≡ false = sym (closing text rest at split) ∙ e in cc

columns_faults : (room : ℕ) (before : List Col) (text : List ℕ) (start at : ℕ) (bytes : List ℕ) (p : Place) → length before + room ≡ most_columns → IsColumns [] before bytes → Lies text start at bytes → columns_at room before text at ≡ Err p → AfterColumns text start p
unfolding columns_at
columns_faults zero before text start at bytes p size s l e = by (closes text at) refl e
  where
    by : (t : Bool) → closes text at ≡ t → cond t (Ok (before, at)) (Err (fault at (codes.LimitColumns (most_columns + 1)))) ≡ failed {A = List Col × ℕ} p → AfterColumns text start p
    by true q f = absurd (no_ok (before, at) p f)
    by false q f = record { before = before; bytes = bytes; at = at; here = at; code = codes.LimitColumns (most_columns + 1); columns = s; lies = l; next = faults.too_many (omega arith) (further text at q); is = sym (err_is f) }
columns_faults (suc room) before text start at bytes p size s l e = elim (tested (closes text at) (Ok (before, at)) (column_at before text at >>= λ c. columns_at room (before ++ c.0 ∷ []) text c.1) (failed p) e) [
  | inl y ↦ absurd (no_ok (before, at) p y.1)
  | inr y ↦ next_ok (column_at before text at) (λ c. columns_at room (before ++ c.0 ∷ []) text c.1) p (AfterColumns text start p) y.1
      (λ g.
      let k = column_faults before text at p g in
      record {
        before = before;
        bytes = bytes;
        at = at;
        here = k.here;
        code = k.code;
        columns = s;
        lies = l;
        next = faults.in_column k.next k.bytes k.here k.code (omega arith) (further text at y.0) k.begins k.lies k.refuses;
        is = k.is;
      })
      (λ c same g.
      let one = column_takes before text at c.0 c.1 same in
      let more : Lies text at c.1 one.bytes = record { split = one.split; size = one.past_is } in
      columns_faults room (before ++ c.0 ∷ []) text start c.1 (bytes ++ one.bytes) p (omega (arith, length-append before (c.0 ∷ []))) (columns_push [] before bytes c.0 one.bytes s one.is) (lies_join text start at c.1 bytes one.bytes l more) g)
]

-- ---- what follows the columns

all_before : (q : ℕ → Bool) (xs : List ℕ) (i : ℕ) → i ≤ length xs → ((k : ℕ) → k < i → not (q (get_or xs k 0)) ≡ false) → list_any (λ b. not (q b)) (take i xs) ≡ false
all_before q xs i h f = none_before (λ b. not (q b)) xs i h f

end_faults : (before : List Col) (text : List ℕ) (at : ℕ) (o : Option ℕ) (p : Place) → length before ≤ most_columns → closes text at ≡ true → list_any holds_data before ≡ true → position (λ b. not (is_blank b)) (drop (at + 1) text) ≡ o → end_by text (at + 1) o ≡ Err p → (here : ℕ) × (code : Code) × NextFault before text at here code × (p ≡ fault here code)
end_faults before text at None p few q d f e = absurd (no_ok (length text) p e)
end_faults before text at (Some n) p few q d f e =
    let rest = drop (at + 1) text in
    let k = position-Some (λ b. not (is_blank b)) rest n 0 f in
    let blanks = take n rest in
    let len : length blanks ≡ n = omega (arith, length-take n rest, k.0) in
    let split : drop at text ≡ semicolon ∷ (blanks ++ get_or rest n 0 ∷ drop (n + 1) rest) =
    closing_split text at q ∙ ap (λ (x : List ℕ). semicolon ∷ x) (sym (take-append-drop n rest) ∙ ap (λ (x : List ℕ). blanks ++ x) (drop_more rest n 0 k.0)) in
    let blank = blank_all blanks (all_before is_blank rest n (omega (arith, k.0)) (λ j lt. k.2 j lt)) in
    let here : at + 1 + length blanks ≡ at + 1 + n = ap (λ (x : ℕ). at + 1 + x) len in
    (at + 1 + length blanks, codes.AfterHeader, faults.after_columns blanks (get_or rest n 0) (drop (n + 1) rest) few split d blank (not_true (is_blank (get_or rest n 0)) k.1), sym (err_is e) ∙ ap (λ (x : ℕ). fault x codes.AfterHeader) (sym here))

close_faults : (before : List Col) (text : List ℕ) (at : ℕ) (p : Place) → length before ≤ most_columns → closes text at ≡ true → close_at before text at ≡ Err p → (here : ℕ) × (code : Code) × NextFault before text at here code × (p ≡ fault here code)
close_faults before text at p few q e = by (list_any holds_data before) refl e
  where
    by : (t : Bool) → list_any holds_data before ≡ t → cond t (end_at text (at + 1)) (Err (fault at codes.NoData)) ≡ failed {A = ℕ} p → (here : ℕ) × (code : Code) × NextFault before text at here code × (p ≡ fault here code)
    by true d f = end_faults before text at (position (λ b. not (is_blank b)) (drop (at + 1) text)) p few q d refl f
    by false d f = (at, codes.NoData, faults.no_data (drop (at + 1) text) few (closing_split text at q) d, sym (err_is f))

-- ---- the text

-- a fault of a header text
record InText (text : List ℕ) (p : Place) : Type 0 where
  pub at : ℕ
  pub code : Code
  pub fault_is : TextFault text at code
  pub is : p ≡ fault at code

heading_lies : (text : List ℕ) (at : ℕ) (item : Item) → Takes Heading text at item → Lies text at item.past (item.text ++ semicolon ∷ [])
heading_lies text at item t =
    let stop : item.stop ≡ semicolon = eqb-true item.stop semicolon t.may in
    record {
      split = t.split ∙ ap (λ (x : ℕ). item.text ++ x ∷ drop item.past text) stop ∙ sym (append_assoc item.text (semicolon ∷ []) (drop item.past text));
      size = omega (arith, t.past_is, length-append item.text (semicolon ∷ []));
    }

after_columns : (text : List ℕ) (p : Place) (at b : ℕ) (w n : List ℕ) → at ≡ after_mark text → IsText Heading w → IsName Heading n → (a : ℕ) → Lies text at a (w ++ semicolon ∷ []) → Lies text a b (n ++ semicolon ∷ []) → AfterColumns text b p → InText text p
after_columns text p at b w n same t k a l m f =
    let whole = lies_join text at a f.at (w ++ semicolon ∷ []) ((n ++ semicolon ∷ []) ++ f.bytes) l (lies_join text a b f.at (n ++ semicolon ∷ []) f.bytes m f.lies) in
    record {
      at = f.here;
      code = f.code;
      is = f.is;
      fault_is = faults.in_columns w n f.bytes f.before f.at f.here f.code t k f.columns (subst (λ (x : ℕ). Lies text x f.at ((w ++ semicolon ∷ []) ++ ((n ++ semicolon ∷ []) ++ f.bytes))) same whole) f.next;
    }

head_faults : (order : Order) (text : List ℕ) (p : Place) → head_at order text ≡ Err p → InText text p
unfolding head_at
head_faults order text p e =
    let at = after_mark text in
    next_ok (text_at Heading text at) _ p (InText text p) e
    (λ f. let k = text_faults Heading text at p f in record { at = at; code = k.code; fault_is = faults.in_description k.code k.because; is = k.is })
    (λ description is1 e1.
    let d = text_takes Heading text at description is1 in
    let l = heading_lies text at description d.1 in
    next_ok (name_at Heading text description.past) _ p (InText text p) e1
    (λ f. let k = name_faults Heading text description.past p f in record { at = description.past; code = k.code; fault_is = faults.in_narrative description.text description.past k.code d.0 l k.because; is = k.is })
    (λ narrative is2 e2.
    let n = name_takes Heading text description.past narrative is2 in
    let m = heading_lies text description.past narrative n.1 in
    let start : Lies text narrative.past narrative.past [] = record { split = refl; size = omega arith } in
    next_ok (columns_at most_columns [] text narrative.past) _ p (InText text p) e2
    (λ f. after_columns text p at narrative.past description.text narrative.text refl d.0 n.0 description.past l m (columns_faults most_columns [] text narrative.past narrative.past [] p refl refl start f))
    (λ cols is3 e3.
    let c = columns_take most_columns [] text narrative.past cols.0 cols.1 is3 in
    next_ok (close_at cols.0 text cols.1) _ p (InText text p) e3
    (λ f.
    let few : length cols.0 ≤ most_columns = omega (arith, c.few, ap length c.is) in
    let k = close_faults cols.0 text cols.1 p few c.closed f in
    let spelled = subst (λ (x : List Col). IsColumns [] x c.span.bytes) (sym c.is) c.span.is in
    after_columns text p at narrative.past description.text narrative.text refl d.0 n.0 description.past l m
    (record { before = cols.0; bytes = c.span.bytes; at = cols.1; here = k.0; code = k.1; columns = spelled; lies = record { split = c.span.split; size = c.span.past_is }; next = k.2; is = k.3 }))
    (λ past same f. absurd (no_ok (record { order = order; description = description.text; narrative = present narrative.text; columns = cols.0 }, past) p f)))))

-- ---- the file

pub header_faults : (bytes : List ℕ) (p : Place) → header_of bytes ≡ Err p → FirstHeaderFault bytes p
unfolding header_of
header_faults bytes p e = by (ltb (length bytes) 4) (ltb longest_text (faults.length_number bytes)) (ltb (length bytes) (4 + faults.length_number bytes)) refl refl refl e
  where
    by : (a b c : Bool) → ltb (length bytes) 4 ≡ a → ltb longest_text (faults.length_number bytes) ≡ b → ltb (length bytes) (4 + faults.length_number bytes) ≡ c
        → cond a (Err (fault 0 codes.NumberCut)) (cond b (Err (fault 0 (codes.LimitHeader (faults.length_number bytes)))) (cond c (Err (fault 4 codes.HeaderCut)) (head_at (order_of bytes) (take (4 + faults.length_number bytes) bytes)))) ≡ failed {A = Head × ℕ} p → FirstHeaderFault bytes p
    by true b c x y z f = subst (FirstHeaderFault bytes) (err_is f) (faults.number_cut (ltb-true (length bytes) 4 x))
    by false true c x y z f = subst (FirstHeaderFault bytes) (err_is f) (faults.limit_header (ltb-false (length bytes) 4 x) (ltb-true longest_text (faults.length_number bytes) y))
    by false false true x y z f = subst (FirstHeaderFault bytes) (err_is f) (faults.header_cut (ltb-false (length bytes) 4 x) (ltb-false longest_text (faults.length_number bytes) y) (ltb-true (length bytes) (4 + faults.length_number bytes) z))
    by false false false x y z f =
        let k = head_faults (order_of bytes) (take (4 + faults.length_number bytes) bytes) p f in
        subst (FirstHeaderFault bytes) (sym k.is) (faults.in_text k.at k.code (ltb-false longest_text (faults.length_number bytes) y) (ltb-false (length bytes) (4 + faults.length_number bytes) z) k.fault_is)
