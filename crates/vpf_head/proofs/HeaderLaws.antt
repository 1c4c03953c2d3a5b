-- A header that is read is spelled so, and what is spelled so is read.
use Rattle.std.proofs.Common.{◌≡◌, ℕ, zero, suc, ◌+◌, ◌≤◌, false, cond, ltb, List, [], ◌∷◌, ◌++◌, length, take, drop, take-add, Ok, Err, refl, sym, ap, subst, ◌∙◌, append_assoc, arith}
use Rattle.std.specs.Int.{w32}
use Rattle.std.proofs.lemmas.Bool.{le-ltb, ltb-false}
use Rattle.std.proofs.lemmas.List.{drop_at, take_at, drop-take, length-append, length-take, length-drop}
use Rattle.vpf_base.specs.Limits.{longest_text}
use Rattle.vpf_base.proofs.Results.{guarded}
use Rattle.vpf_base.specs.Bytes.{IsBytes}
use Rattle.vpf_base.proofs.NumberLemmas.{number_again, number_takes}
use Rattle.vpf_base.specs.declared.orders.Order.{Order}
use Rattle.vpf_base.specs.declared.orders.Order.TheVariants.{Little, Big}
use Rattle.vpf_triplet.specs.declared.places.Code.TheVariants as codes
use Rattle.vpf_base.specs.Numbers.{number_of, number}
use Rattle.vpf_triplet.specs.Places.{fault}
use Rattle.vpf_head.specs.Bytes.{semicolon}
use Rattle.vpf_head.specs.Head.{Head}
use Rattle.vpf_head.specs.Reading.{order_of, head_at, header_of}
use Rattle.vpf_head.specs.Spelling.{IsHeaderText, IsHeader}
use Rattle.vpf_head.proofs.TextLaws.{mark_again, head_again, head_takes, head_long}

-- ---- numbers

pub four_long : (o : Order) (n : ℕ) → length (number o w32 n) ≡ 4
four_long Little n = refl
four_long Big n = refl

-- ---- what is spelled is read

items_long : (h : Head) (t : List ℕ) (s : IsHeaderText h t) → 2 ≤ length s.items
items_long h t s =
    let t3 = s.columns ++ semicolon ∷ s.blanks in
    omega (arith, ap length s.items_are, length-append h.description (semicolon ∷ (s.narrative ++ semicolon ∷ t3)), length-append s.narrative (semicolon ∷ t3))

pub header_again : (h : Head) (spelling rest : List ℕ) → IsHeader h spelling → header_of (spelling ++ rest) ≡ Ok (h, length spelling)
unfolding header_of
header_again h spelling rest s =
    let t = s.text in
    let n = length t in
    let front = number h.order w32 n in
    let bytes = spelling ++ rest in
    let four = four_long h.order n in
    let whole : bytes ≡ front ++ (t ++ rest) = ap (λ (x : List ℕ). x ++ rest) s.spelled ∙ append_assoc front t rest in
    let long : length spelling ≡ 4 + n = ap length s.spelled ∙ omega (arith, length-append front t) in
    let d : drop 4 bytes ≡ t ++ rest = ap (drop 4) whole ∙ drop_at front (t ++ rest) 4 four in
    let d2 : drop 4 spelling ≡ t = ap (drop 4) s.spelled ∙ drop_at front t 4 four in
    let marked : drop 4 bytes ≡ s.text_is.mark ++ (s.text_is.items ++ rest) = d ∙ ap (λ (x : List ℕ). x ++ rest) s.text_is.spelled ∙ append_assoc s.text_is.mark s.text_is.items rest in
    let o : order_of bytes ≡ h.order = (mark_again h.order s.text_is.mark s.text_is.items rest bytes (items_long h t s.text_is) s.text_is.mark_is marked).order_is in
    let num : number_of h.order w32 bytes ≡ n = ap (number_of h.order w32) whole ∙ number_again h.order n (t ++ rest) (let k = s.short in omega arith) in
    let len : length bytes ≡ 4 + n + length rest = omega (arith, length-append spelling rest, long) in
    let a : ltb (length bytes) 4 ≡ false = le-ltb _ _ (omega arith) in
    let b : ltb longest_text n ≡ false = le-ltb _ _ s.short in
    let c : ltb (length bytes) (4 + n) ≡ false = le-ltb _ _ (omega arith) in
    let cut : take (4 + n) bytes ≡ spelling = take_at spelling rest (4 + n) long in
    rw (o, num, a, b, c, cut) (head_again h t spelling s.text_is d2)

-- ---- what is read is spelled

take_two : (m : ℕ) (l : List ℕ) → 2 ≤ m → take 2 (take m l) ≡ take 2 l
take_two zero l h = absurd (omega arith)
take_two (suc zero) l h = absurd (omega arith)
take_two (suc (suc m)) [] h = refl
take_two (suc (suc m)) (a ∷ []) h = refl
take_two (suc (suc m)) (a ∷ b ∷ l) h = refl

order_cut : (m : ℕ) (bytes : List ℕ) → 2 ≤ m → order_of (take (4 + m) bytes) ≡ order_of bytes
order_cut m bytes h =
    let k : take 2 (drop 4 (take (4 + m) bytes)) ≡ take 2 (drop 4 bytes) = ap (take 2) (drop-take 4 m bytes) ∙ take_two m (drop 4 bytes) h in
    rw k refl

-- a header that was taken from bytes
pub record TakesHeader (h : Head) (past : ℕ) (bytes : List ℕ) : Type 0 where
  pub inside : past ≤ length bytes
  pub order_is : h.order ≡ order_of bytes
  pub size : past ≡ 4 + number_of h.order w32 bytes
  pub short : number_of h.order w32 bytes ≤ longest_text
  pub is : IsHeaderText h (take (number_of h.order w32 bytes) (drop 4 bytes))

text_takes : (bytes : List ℕ) (m : ℕ) (h : Head) (past : ℕ) → 4 + m ≤ length bytes → m ≤ longest_text → number_of (order_of bytes) w32 bytes ≡ m → head_at (order_of bytes) (take (4 + m) bytes) ≡ Ok (h, past) → TakesHeader h past bytes
text_takes bytes m h past inside short num e =
    let text = take (4 + m) bytes in
    let len : length text ≡ 4 + m = omega (arith, length-take (4 + m) bytes, inside) in
    let long = head_long (order_of bytes) text h past e in
    let same : order_of text ≡ order_of bytes = order_cut m bytes (omega arith) in
    let t = head_takes text h past (ap (λ (o : Order). head_at o text) same ∙ e) in
    let o : h.order ≡ order_of bytes = t.0.order_is ∙ same in
    let size : number_of h.order w32 bytes ≡ m = ap (λ (x : Order). number_of x w32 bytes) o ∙ num in
    record {
      inside = omega (arith, t.1, len);
      order_is = o;
      size = t.1 ∙ len ∙ ap (λ (x : ℕ). 4 + x) (sym size);
      short = rw size short;
      is = rw size (subst (IsHeaderText h) (drop-take 4 m bytes) t.0.is);
    }

pub header_takes : (bytes : List ℕ) (h : Head) (past : ℕ) → header_of bytes ≡ Ok (h, past) → TakesHeader h past bytes
unfolding header_of
header_takes bytes h past e =
    let o = order_of bytes in
    let m = number_of o w32 bytes in
    let text = take (4 + m) bytes in
    let a = guarded (ltb (length bytes) 4) (fault 0 codes.NumberCut) (cond (ltb longest_text m) (Err (fault 0 (codes.LimitHeader m))) (cond (ltb (length bytes) (4 + m)) (Err (fault 4 codes.HeaderCut)) (head_at o text))) (h, past) e in
    let b = guarded (ltb longest_text m) (fault 0 (codes.LimitHeader m)) (cond (ltb (length bytes) (4 + m)) (Err (fault 4 codes.HeaderCut)) (head_at o text)) (h, past) a.1 in
    let c = guarded (ltb (length bytes) (4 + m)) (fault 4 codes.HeaderCut) (head_at o text) (h, past) b.1 in
    text_takes bytes m h past (ltb-false (length bytes) (4 + m) c.0) (ltb-false longest_text m b.0) refl c.1

pub header_spelled : (bytes : List ℕ) (h : Head) (past : ℕ) → IsBytes bytes → header_of bytes ≡ Ok (h, past) → IsHeader h (take past bytes)
header_spelled bytes h past fits e =
    let t = header_takes bytes h past e in
    let m = number_of h.order w32 bytes in
    let text = take m (drop 4 bytes) in
    let len : length text ≡ m = omega (arith, length-take m (drop 4 bytes), length-drop 4 bytes, t.inside, t.size) in
    let num : number h.order w32 m ≡ take 4 bytes = number_takes h.order bytes fits (omega (arith, t.inside, t.size)) in
    let whole : take past bytes ≡ number h.order w32 (length text) ++ text = ap (λ (k : ℕ). take k bytes) t.size ∙ take-add 4 m bytes ∙ rw (len, num) refl in
    record { text = text; text_is = t.is; short = rw len t.short; spelled = whole }
