-- An item that is read is spelled so, and what is spelled so is read.
use Rattle.std.proofs.Common.{◌≡◌, ℕ, zero, suc, ◌+◌, ◌<◌, ◌≤◌, Bool, true, false, cond, ltb, List, [], ◌∷◌, ◌++◌, length, take, drop, get_or, Option, Some, None, Ok, Err, refl, sym, ap, subst, ◌∙◌, append_assoc, arith}
use Rattle.std.specs.Prelude.{position}
use Rattle.std.specs.List.{list_any, position_or_len}
use Rattle.std.proofs.lemmas.List.Quantifiers.{position-Some}
use Rattle.std.proofs.lemmas.Bool.{lt-ltb, le-ltb, ltb-false}
use Rattle.std.proofs.lemmas.List.{take_at, drop_at, drop-drop, take-append-drop, length-append, length-take, drop_more}
use Rattle.vpf_base.specs.Limits.{longest_name}
use Rattle.vpf_base.proofs.Results.{passed, guarded, bind_ok, ok_is}
use Rattle.vpf_base.proofs.Booleans.{neither}
use Rattle.vpf_triplet.specs.declared.places.Code.TheVariants as codes
use Rattle.vpf_triplet.specs.Places.{fault}
use Rattle.vpf_head.specs.declared.items.Form.{Form}
use Rattle.vpf_head.specs.Forms.{is_stop, is_separator, holds_control}
use Rattle.vpf_head.specs.Items.{Item, item_ended, item_at, text_at, name_at}
use Rattle.vpf_head.specs.Spelling.{IsOpen, IsText, IsName}

-- ---- what is spelled is read

-- where no byte before it passes, the first that passes is this one
place_is : (p : ℕ → Bool) (w rest : List ℕ) (x : ℕ) → list_any p w ≡ false → p x ≡ true → position_or_len p (w ++ x ∷ rest) ≡ length w
place_is p [] rest x h e = rw e refl
place_is p (b ∷ w) rest x h e =
    let t = neither (p b) (list_any p w) h in
    rw (t.0, place_is p w rest x t.1 e) (omega arith)

pub position_is : (p : ℕ → Bool) (w rest : List ℕ) (x : ℕ) → list_any p w ≡ false → p x ≡ true → position p (w ++ x ∷ rest) ≡ Some (length w)
position_is p w rest x h e =
    let k = place_is p w rest x h e in
    let lt : ltb (length w) (length (w ++ x ∷ rest)) ≡ true = lt-ltb _ _ (omega (arith, length-append w (x ∷ rest))) in
    rw (k, lt) refl

pub get_at : (w rest : List ℕ) (x : ℕ) → get_or (w ++ x ∷ rest) (length w) 0 ≡ x
get_at [] rest x = refl
get_at (b ∷ w) rest x = get_at w rest x

-- the item that this text and byte make at this offset
abbrev pub made : List ℕ → ℕ → ℕ → Item
made w x at = record { text = w; stop = x; past = at + length w + 1 }

pub item_again : (form : Form) (x : ℕ) (text : List ℕ) (at : ℕ) (w rest : List ℕ) → is_stop form x ≡ true → is_separator form x ≡ true → IsOpen form w → drop at text ≡ w ++ x ∷ rest → item_at form text at ≡ Ok (made w x at)
unfolding item_at
item_again form x text at w rest stops may is split =
    let found : position (is_stop form) (drop at text) ≡ Some (length w) = ap (position (is_stop form)) split ∙ position_is (is_stop form) w rest x is stops in
    let byte : get_or (drop at text) (length w) 0 ≡ x = ap (λ (l : List ℕ). get_or l (length w) 0) split ∙ get_at w rest x in
    let front : take (length w) (drop at text) ≡ w = ap (take (length w)) split ∙ take_at w (x ∷ rest) (length w) refl in
    rw (found, byte, may, front) refl

pub text_again : (form : Form) (x : ℕ) (text : List ℕ) (at : ℕ) (w rest : List ℕ) → is_stop form x ≡ true → is_separator form x ≡ true → IsText form w → drop at text ≡ w ++ x ∷ rest → text_at form text at ≡ Ok (made w x at)
unfolding text_at
text_again form x text at w rest stops may is split = rw (item_again form x text at w rest stops may is.open_ended split, is.plain) refl

pub name_again : (form : Form) (x : ℕ) (text : List ℕ) (at : ℕ) (w rest : List ℕ) → is_stop form x ≡ true → is_separator form x ≡ true → IsName form w → drop at text ≡ w ++ x ∷ rest → name_at form text at ≡ Ok (made w x at)
unfolding name_at
name_again form x text at w rest stops may is split =
    rw (item_again form x text at w rest stops may is.text.open_ended split, le-ltb longest_name (length w) is.short, is.text.plain) refl

-- what stands behind an item
pub behind : (text : List ℕ) (at : ℕ) (w rest : List ℕ) (x : ℕ) → drop at text ≡ w ++ x ∷ rest → drop (at + length w + 1) text ≡ rest
behind text at w rest x e =
    let k : at + length w + 1 ≡ at + (length w + 1) = omega arith in
    let s : w ++ x ∷ rest ≡ (w ++ x ∷ []) ++ rest = simp append_assoc in
    let len : length (w ++ x ∷ []) ≡ length w + 1 = length-append w (x ∷ []) in
    ap (λ (n : ℕ). drop n text) k ∙ sym (drop-drop (length w + 1) at text) ∙ ap (drop (length w + 1)) (e ∙ s) ∙ drop_at (w ++ x ∷ []) rest (length w + 1) len

-- ---- what is read is spelled

-- what an item took
pub record Takes (form : Form) (text : List ℕ) (at : ℕ) (item : Item) : Type 0 where
  pub open_ended : IsOpen form item.text
  pub may : is_separator form item.stop ≡ true
  pub split : drop at text ≡ item.text ++ item.stop ∷ drop item.past text
  pub past_is : item.past ≡ at + length item.text + 1

pub none_before : (q : ℕ → Bool) (xs : List ℕ) (i : ℕ) → i ≤ length xs → ((k : ℕ) → k < i → q (get_or xs k 0) ≡ false) → list_any q (take i xs) ≡ false
none_before q xs zero le h = refl
none_before q [] (suc i) le h = absurd (omega arith)
none_before q (x ∷ xs) (suc i) le h = rw (h 0 (omega arith), none_before q xs i (omega arith) (λ k lt. h (suc k) (omega arith))) refl

ended_takes : (form : Form) (text : List ℕ) (at : ℕ) (o : Option ℕ) (item : Item) → position (is_stop form) (drop at text) ≡ o → item_ended form (drop at text) at o ≡ Ok item → Takes form text at item
ended_takes form text at None item f h = absurd cc
ended_takes form text at (Some n) item f h =
    let rest = drop at text in
    let p = passed _ _ _ _ h in
    let k = position-Some (is_stop form) rest n 0 f in
    let len : length (take n rest) ≡ n = omega (arith, length-take n rest, k.0) in
    let opened : IsOpen form (take n rest) = none_before (is_stop form) rest n (omega (arith, k.0)) (λ j lt. k.2 j lt) in
    let after : drop (n + 1) rest ≡ drop (at + n + 1) text = drop-drop (n + 1) at text ∙ ap (λ (m : ℕ). drop m text) (omega arith) in
    let split : rest ≡ take n rest ++ get_or rest n 0 ∷ drop (at + n + 1) text =
    sym (take-append-drop n rest) ∙ ap (λ (x : List ℕ). take n rest ++ x) (drop_more rest n 0 k.0 ∙ rw after refl) in
    subst (Takes form text at) (ok_is p.1) (record { open_ended = opened; may = p.0; split = split; past_is = omega (arith, len) })

pub item_takes : (form : Form) (text : List ℕ) (at : ℕ) (item : Item) → item_at form text at ≡ Ok item → Takes form text at item
unfolding item_at
item_takes form text at item h = ended_takes form text at (position (is_stop form) (drop at text)) item refl h

pub text_takes : (form : Form) (text : List ℕ) (at : ℕ) (item : Item) → text_at form text at ≡ Ok item → IsText form item.text × Takes form text at item
unfolding text_at
text_takes form text at item h =
    let b = bind_ok (item_at form text at) (λ i. cond (holds_control i.text) (Err (fault at codes.ItemByte)) (Ok i)) item h in
    let t = item_takes form text at b.0 b.1 in
    let p = guarded (holds_control b.0.text) (fault at codes.ItemByte) (Ok b.0) item b.2 in
    subst (λ (i : Item). IsText form i.text × Takes form text at i) (ok_is p.1) (record { open_ended = t.open_ended; plain = p.0 }, t)

pub name_takes : (form : Form) (text : List ℕ) (at : ℕ) (item : Item) → name_at form text at ≡ Ok item → IsName form item.text × Takes form text at item
unfolding name_at
name_takes form text at item h =
    let b = bind_ok (item_at form text at) (λ i. cond (ltb longest_name (length i.text)) (Err (fault at (codes.LimitName (length i.text)))) (cond (holds_control i.text) (Err (fault at codes.ItemByte)) (Ok i))) item h in
    let t = item_takes form text at b.0 b.1 in
    let g = guarded (ltb longest_name (length b.0.text)) (fault at (codes.LimitName (length b.0.text))) (cond (holds_control b.0.text) (Err (fault at codes.ItemByte)) (Ok b.0)) item b.2 in
    let p = guarded (holds_control b.0.text) (fault at codes.ItemByte) (Ok b.0) item g.1 in
    subst (λ (i : Item). IsName form i.text × Takes form text at i) (ok_is p.1) (record { text = record { open_ended = t.open_ended; plain = p.0 }; short = ltb-false _ _ g.0 }, t)
