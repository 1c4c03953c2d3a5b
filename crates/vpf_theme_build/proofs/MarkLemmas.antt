-- The bits of a bitmap that is written mark its rows.
use Rattle.std.proofs.Common.{[], ◌≡◌, ℕ, zero, suc, ◌+◌, ◌-◌, ◌*◌, ◌/◌, ◌%◌, ◌^◌, ◌<◌, Bool, true, false, ◌==◌, List, ◌∷◌, ◌++◌, length, drop, get_or, refl, sym, ap, subst, ◌∙◌, arith, inl, inr}
use Rattle.std.specs.Prelude.{◌↔◌, Contains, if◌then◌else◌}
use Rattle.std.specs.Int.{bit_at}
use Rattle.std.proofs.lemmas.Bool.{cases_lt, cases_eq, eq-eqb, ne_eqb}
use Rattle.std.proofs.lemmas.List.{get_or-drop}
use Rattle.std.proofs.lemmas.List.FromFn.{get_or-map-range_with_len, length-map-range_with_len}
use Rattle.std.proofs.lemmas.Nat.Bits.{bit_at_cat_low, bit_at_cat_high}
use Rattle.vpf_base.proofs.Booleans.{or_true}
use Rattle.vpf_theme.specs.Entries.{is_marked}
use Rattle.vpf_theme_build.specs.Text.{row_bits, bitmap_byte, bitmap_text}
use Rattle.vpf_theme_build.proofs.BitLemmas.{bits_more, below_more, still_small}
use Rattle.vpf_theme.specs.Inner.StoredLaws.{holds_row as has}

-- ---- members

has_member : (rows : List ℕ) (row k : ℕ) → k < length rows → get_or rows k row ≡ row → has rows row ≡ true
has_member [] row k h e = absurd (omega arith)
has_member (x ∷ rows) row zero h e = rw (eq-eqb x row e) refl
has_member (x ∷ rows) row (suc k) h e = rw (has_member rows row k (omega arith) e, or_true) refl

member_of : (rows : List ℕ) (row : ℕ) → has rows row ≡ true → Contains rows row
member_of [] row h = absurd (cc h)
member_of (x ∷ rows) row h = elim (cases_eq x row) [
  | inl e ↦ (zero, omega arith, e)
  | inr ne ↦ let k = rw (ne_eqb x row ne) at h in let c = member_of rows row k in (suc c.0, omega (arith, c.1), c.2)
]

-- ---- bits

-- 1 where it holds
abbrev bit : Bool → ℕ
bit b = if b then 1 else 0

bit_value : (b : Bool) (n : ℕ) → (if b then 2 ^ n else 0) ≡ bit b * 2 ^ n
bit_value true n = omega arith
bit_value false n = omega arith

bit_small : (b : Bool) (m n : ℕ) → m < 2 ^ n → m + (if b then 2 ^ n else 0) < 2 ^ (n + 1)
bit_small true m n h = below_more m n h
bit_small false m n h = let k = still_small n m h in omega (arith, k)

bits_small : (rows : List ℕ) (first n : ℕ) → row_bits rows first n < 2 ^ n
bits_small rows first zero = omega arith
bits_small rows first (suc n) =
    let e : n + 1 ≡ suc n = omega arith in
    let small : row_bits rows first (n + 1) < 2 ^ (n + 1) = subst (λ (m : ℕ). m < 2 ^ (n + 1)) (sym (bits_more rows first n)) (bit_small (has rows (first + n)) (row_bits rows first n) n (bits_small rows first n)) in
    subst (λ (m : ℕ). row_bits rows first m < 2 ^ m) e small

bit_alone : (b : Bool) → bit_at (bit b) 0 ≡ bit b
bit_alone true = refl
bit_alone false = refl

top_bit : (t : Bool) (m n b : ℕ) → b ≡ n → m < 2 ^ n → bit_at (bit t * 2 ^ n + m) b ≡ bit t
top_bit t m n b e h =
    let d : b - n ≡ 0 = omega arith in
    let high = bit_at_cat_high (bit t) n m b h (omega arith) in
    rw d at high ∙ bit_alone t

bits_again : (rows : List ℕ) (first n b : ℕ) → b < n → bit_at (row_bits rows first n) b ≡ bit (has rows (first + b))
bits_again rows first zero b h = absurd (omega arith)
bits_again rows first (suc n) b h =
    let t = has rows (first + n) in
    let m = row_bits rows first n in
    let more : row_bits rows first (n + 1) ≡ bit t * 2 ^ n + m = bits_more rows first n ∙ ap (λ (x : ℕ). m + x) (bit_value t n) ∙ omega arith in
    let e : n + 1 ≡ suc n = omega arith in
    ap (λ (k : ℕ). bit_at (row_bits rows first k) b) (sym e) ∙ ap (λ (k : ℕ). bit_at k b) more ∙ elim (cases_lt b n) [
      | inl lt ↦ bit_at_cat_low (bit t) n m b lt ∙ bits_again rows first n b lt
      | inr ge ↦ top_bit t m n b (omega arith) (bits_small rows first n) ∙ ap (λ (k : ℕ). bit (has rows (first + k))) (let z : n ≡ b = omega arith in z)
    ]

bit_told : (b : Bool) → (bit b == 1) ≡ b
bit_told true = refl
bit_told false = refl

-- ---- a bitmap in its file

byte_in : (bytes text rest : List ℕ) (at j : ℕ) → drop at bytes ≡ text ++ rest → j < length text → get_or bytes (at + j) 0 ≡ get_or text j 0
byte_in bytes text rest at j e h = sym (get_or-drop at bytes j 0) ∙ ap (λ (x : List ℕ). get_or x j 0) e ∙ front text rest j h
  where
    front : (text rest : List ℕ) (j : ℕ) → j < length text → get_or (text ++ rest) j 0 ≡ get_or text j 0
    front [] rest j h = absurd (omega arith)
    front (b ∷ text) rest zero h = refl
    front (b ∷ text) rest (suc j) h = front text rest j (omega arith)

pub length-bitmap : (n : ℕ) (rows : List ℕ) → length (bitmap_text n rows) ≡ (n + 7) / 8
length-bitmap n rows = length-map-range_with_len (bitmap_byte rows) 0 ((n + 7) / 8)

marked_again : (bytes rest rows : List ℕ) (at n k : ℕ) → drop at bytes ≡ bitmap_text n rows ++ rest → k < 8 * ((n + 7) / 8) → is_marked bytes at k ≡ has rows (k + 1)
unfolding is_marked
marked_again bytes rest rows at n k e h =
    let j : k / 8 < (n + 7) / 8 = omega arith in
    let b : k % 8 < 8 = omega arith in
    let byte = byte_in bytes (bitmap_text n rows) rest at (k / 8) e (omega (arith, length-bitmap n rows)) ∙ get_or-map-range_with_len (bitmap_byte rows) 0 ((n + 7) / 8) (k / 8) (k / 8) 0 j (omega arith) in
    let row : 8 * (k / 8) + 1 + k % 8 ≡ k + 1 = omega arith in
    rw (byte, bits_again rows (8 * (k / 8) + 1) 8 (k % 8) b, row) (bit_told (has rows (k + 1)))

pub marks_there : (bytes rest rows : List ℕ) (at n k : ℕ) → drop at bytes ≡ bitmap_text n rows ++ rest → k < 8 * ((n + 7) / 8) → (is_marked bytes at k ≡ true) ↔ Contains rows (k + 1)
marks_there bytes rest rows at n k e h =
    let m = marked_again bytes rest rows at n k e h in
    (λ t. member_of rows (k + 1) (sym m ∙ t), λ c. m ∙ has_member rows (k + 1) c.0 c.1 c.2)
