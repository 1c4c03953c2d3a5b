-- Rows that are turned block by block.
use Rattle.std.proofs.Common.{◌≡◌, ℕ, zero, suc, ◌+◌, ◌-◌, ◌*◌, ◌/◌, ◌%◌, ◌<◌, ◌≤◌, min, Option, Some, None, List, [], ◌∷◌, ◌++◌, length, take, drop, map, refl, sym, ap, ◌∙◌, append_assoc, arith, inl, inr}
use Rattle.std.specs.Prelude.{◌⊎◌}
use Rattle.std.specs.Option.{unwrap_or}
use Rattle.std.proofs.Math.Nat.{mul-add-div_right}
use Rattle.std.proofs.lemmas.Bool.{cases_lt}
use Rattle.std.proofs.lemmas.List.{append-nil, drop_at, drop_all, drop-drop, length-append, length-drop, length-take-le, nil_from_length, take_all, take_at, take-append-drop, take-append-le, drop-append-le}
use Rattle.std.proofs.lemmas.Slice.{take-put_mid, drop-put_mid}
use borrow.Rule.Slice.PartMut.{put_mid}
use Rattle.vpf_head.specs.Head.{Col}
use Rattle.vpf_value.specs.declared.turning.WordSize.{WordSize}
use Rattle.vpf_value.specs.Inner.Turning.{each_piece, word_size}
use Rattle.vpf_value.specs.Widths.{cell_width}
use Rattle.vpf_write.specs.declared.turning.Field.{Field}
use Rattle.vpf_write.specs.Inner.Turning.{bytes_or_none, field_of, turned_row, turned_rows}
use Rattle.vpf_write.proofs.Pieces.{none_left}

-- pieces of a list that ends with one of them, and those of another behind it
pieces_joined : (f : List ℕ → List ℕ) (m n size : ℕ) (a b : List ℕ) → length a ≡ m * size → each_piece f (m + n) size (a ++ b) ≡ each_piece f m size a ++ each_piece f n size b
unfolding each_piece
pieces_joined f zero n size a b e =
    let none : a ≡ [] = nil_from_length a (omega (arith, e)) in
    let count : zero + n ≡ n = omega arith in
    rw (none, count) refl
pieces_joined f (suc m) n size a b e =
    let more : suc m * size ≡ size + m * size = omega arith in
    let count : suc m + n ≡ suc (m + n) = omega arith in
    let inside : size ≤ length a = omega (arith, more, e) in
    let others = pieces_joined f m n size (drop size a) b (omega (arith, more, e, length-drop size a)) in
    rw (count, take-append-le size a b inside, drop-append-le size a b inside, others) (sym (append_assoc (f (take size a)) (each_piece f m size (drop size a)) (each_piece f n size b)))

whole_rows : (len width : ℕ) → len % width ≡ 0 → 0 < width → len ≡ len / width * width
whole_rows len width e some = omega arith

rows_joined : (f : List ℕ → List ℕ) (width : ℕ) (a b : List ℕ) → 0 < width → length a % width ≡ 0 → each_piece f (length (a ++ b) / width) width (a ++ b) ≡ each_piece f (length a / width) width a ++ each_piece f (length b / width) width b
rows_joined f width a b some e =
    let m = length a / width in
    let whole = whole_rows (length a) width e some in
    let len : length (a ++ b) ≡ m * width + length b = omega (arith, length-append a b, whole) in
    let count : length (a ++ b) / width ≡ m + length b / width = ap (λ (n : ℕ). n / width) len ∙ mul-add-div_right some m (length b) in
    rw count (pieces_joined f m (length b / width) width a b whole)

no_rows : (f : List ℕ → List ℕ) (width : ℕ) → 0 < width → each_piece f (0 / width) width [] ≡ []
no_rows f width some = let z : 0 / width ≡ 0 = omega arith in rw z (none_left f width [])

-- rows are turned in two parts, of which the first has whole rows or is the last
in_two_parts : (fs : List Field) (width k : ℕ) (s : List ℕ) → 0 < width → (k % width ≡ 0) ⊎ (length s ≤ k) → turned_rows fs width s ≡ turned_rows fs width (take k s) ++ turned_rows fs width (drop k s)
in_two_parts fs width k s some (inr h) =
    rw (take_all k s h, drop_all k s h, no_rows (turned_row fs) width some) (sym (append-nil (turned_rows fs width s)))
in_two_parts fs width k s some (inl h) =
    elim (cases_lt (length s) k) [
      | inl short ↦ let le : length s ≤ k = omega arith in rw (take_all k s le, drop_all k s le, no_rows (turned_row fs) width some) (sym (append-nil (turned_rows fs width s)))
      | inr long ↦
          let a = take k s in
          let b = drop k s in
          let len : length a ≡ k = length-take-le k s long in
          let whole : length a % width ≡ 0 = ap (λ (n : ℕ). n % width) len ∙ h in
          ap (turned_rows fs width) (sym (take-append-drop k s)) ∙ rows_joined (turned_row fs) width a b some whole
    ]

block_whole : (size len width : ℕ) → size % width ≡ 0 → (min size len % width ≡ 0) ⊎ (len ≤ min size len)
block_whole size len width h =
    elim (cases_lt size len) [
      | inl less ↦ inl (let e : min size len ≡ size = omega arith in rw e h)
      | inr more ↦ inr (omega arith)
    ]

-- what stands behind is turned, and what stood there before stays
pub behind_turned : (f : List ℕ → List ℕ) (begun : ℕ) (was block mid y : List ℕ) → begun ≡ length was → mid ≡ was ++ block → y ≡ f (take (length mid - begun) (drop begun mid)) → put_mid begun (length mid - begun) mid y ≡ was ++ f block
behind_turned f begun was block mid y b e is =
    let front : take begun mid ≡ was = rw (e, b) (take_at was block (length was) refl) in
    let back : drop begun mid ≡ block = rw (e, b) (drop_at was block (length was) refl) in
    let long : length mid - begun ≡ length block = omega (arith, ap length e, length-append was block, b) in
    let all : take (length mid - begun) (drop begun mid) ≡ block = rw (long, back) (take_all (length block) block (omega arith)) in
    let none : drop (length mid - begun) (drop begun mid) ≡ [] = rw (long, back) (drop_all (length block) block (omega arith)) in
    rw (front, none, is, all) (ap (λ (xs : List ℕ). was ++ xs) (append-nil (f block)))

pub length-behind : (begun : ℕ) (mid y : List ℕ) → begun ≤ length mid → length y ≡ length (take (length mid - begun) (drop begun mid)) → length (put_mid begun (length mid - begun) mid y) ≡ length mid
length-behind begun mid y h e =
    let k = length mid - begun in
    let rest = drop begun mid in
    let part : length (take k rest) ≡ k = length-take-le k rest (omega (arith, length-drop begun mid)) in
    omega (arith, length-append (take begun mid) (y ++ drop k rest), length-append y (drop k rest), length-take-le begun mid h, length-drop k rest, length-drop begun mid, e, part)

-- one block more is written, and the rows that are left
pub block_put : (fs : List Field) (width size k : ℕ) (s was now block others all : List ℕ) → 0 < width → size % width ≡ 0 → k ≡ min size (length s) → block ≡ take k s → others ≡ drop k s → now ≡ was ++ turned_rows fs width block
    → was ++ turned_rows fs width s ≡ all → now ++ turned_rows fs width others ≡ all
block_put fs width size k s was now block others all some whole is b o e h =
    let part : (k % width ≡ 0) ⊎ (length s ≤ k) = rw is (block_whole size (length s) width whole) in
    rw (e, b, o, append_assoc, ← in_two_parts fs width k s some part) h

pub no_more : (fs : List Field) (width : ℕ) (s was all : List ℕ) → 0 < width → length s ≡ 0 → was ++ turned_rows fs width s ≡ all → was ≡ all
no_more fs width s was all some e h =
    let none : s ≡ [] = nil_from_length s e in
    let rest : turned_rows fs width s ≡ [] = rw none (no_rows (turned_row fs) width some) in
    sym (append-nil was) ∙ (rw rest at h)

-- ---- in place

-- the rows before one are turned already, and those from it on are left
pub record Turning (fs : List Field) (width at : ℕ) (s all : List ℕ) : Type 0 where
  pub inside : at ≤ length s
  pub done : take at s ++ turned_rows fs width (drop at s) ≡ all

pub none_turned : (fs : List Field) (width : ℕ) (s : List ℕ) → Turning fs width 0 s (turned_rows fs width s)
none_turned fs width s = record { inside = omega arith; done = refl }

pub block_turned : (fs : List Field) (width size at k past : ℕ) (s y all : List ℕ) → 0 < width → size % width ≡ 0 → past ≡ at + min size (length s - at) → k ≡ past - at → y ≡ turned_rows fs width (take k (drop at s)) → length y ≡ length (take k (drop at s))
    → Turning fs width at s all → Turning fs width past (put_mid at k s y) all
block_turned fs width size at k past s y all some whole e f is len h =
    let rest = drop at s in
    let long : length rest ≡ length s - at = length-drop at s in
    let least : k ≡ min size (length rest) = omega (arith, e, f, long) in
    let part : (k % width ≡ 0) ⊎ (length rest ≤ k) = rw least (block_whole size (length rest) width whole) in
    let wide : length y ≡ k = len ∙ length-take-le k rest (omega (arith, least)) in
    let front = take-put_mid at k s y past (omega (arith, e, f, wide)) h.inside in
    let back = drop-put_mid at k s y past (omega (arith, e, f)) h.inside wide in
    let behind : drop past s ≡ drop k rest = ap (λ (n : ℕ). drop n s) (omega (arith, e, f)) ∙ sym (drop-drop k at s) in
    let made : take at s ++ (y ++ turned_rows fs width (drop past s)) ≡ all = rw (is, behind, ← in_two_parts fs width k rest some part) (h.done) in
    let same : length (put_mid at k s y) ≡ length s = omega (arith, length-append (take at s) (y ++ drop k rest), length-append y (drop k rest), length-take-le at s h.inside, length-drop k rest, long, wide, least, h.inside) in
    record { inside = omega (arith, same, e, h.inside); done = rw (front, back, append_assoc) made }

pub all_turned : (fs : List Field) (width at : ℕ) (s all : List ℕ) → 0 < width → length s ≤ at → Turning fs width at s all → s ≡ all
all_turned fs width at s all some e h =
    let rest : turned_rows fs width (drop at s) ≡ [] = rw (drop_all at s e) (no_rows (turned_row fs) width some) in
    let whole : take at s ≡ s = take_all at s e in
    let done : s ++ [] ≡ all = rw (whole, rest) at h.done in
    sym (append-nil s) ∙ done

-- ---- the fields of a header

abbrev made : WordSize → ℕ → Field
made word width = record { word = word; width = width }

pub or_none : (w : Option ℕ) → unwrap_or w 0 ≡ bytes_or_none w
or_none None = refl
or_none (Some n) = refl

-- the field of a column, by its parts
pub field_by : (c : Col) (word : WordSize) (width : ℕ) (w : Option ℕ) → word ≡ word_size c.kind → w ≡ cell_width c.kind c.count → width ≡ unwrap_or w 0 → made word width ≡ field_of c
field_by c word width w a b e = rw (a, e, or_none w, b) refl

pub field_pushed : (cs : List Col) (i : ℕ) (c : Col) (was now : List Field) (f : Field) (all : List Field) → drop i cs ≡ c ∷ drop (i + 1) cs → f ≡ field_of c → now ≡ was ++ f ∷ [] → was ++ map field_of (drop i cs) ≡ all → now ++ map field_of (drop (i + 1) cs) ≡ all
field_pushed cs i c was now f all split is e h =
    let next : was ++ (field_of c ∷ map field_of (drop (i + 1) cs)) ≡ all = rw split at h in
    rw (e, append_assoc, is) next
