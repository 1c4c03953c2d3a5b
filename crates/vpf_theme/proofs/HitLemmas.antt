-- The rows of lists and bitmaps, one after another.
use Rattle.std.proofs.Common.{◌≡◌, ℕ, zero, suc, ◌+◌, ◌-◌, ◌<◌, max, ◌==◌, true, false, List, [], ◌∷◌, length, map, refl, sym, ap, ◌∙◌, arith}
use Rattle.std.specs.Prelude.{if◌then◌else◌}
use Rattle.std.specs.List.{range_with_len}
use Rattle.std.proofs.lemmas.List.FromFn.{length-map-range_with_len}
use Rattle.std.proofs.lemmas.Bool.{ne_eqb}
use Rattle.vpf_theme.specs.declared.layout.Form.{Form}
use Rattle.vpf_theme.specs.declared.layout.Form.TheVariants as forms
use Rattle.vpf_theme.specs.declared.layout.Layout.{Layout}
use Rattle.vpf_theme.specs.declared.entries.Extent.{Extent}
use Rattle.vpf_theme.specs.Entries.{is_marked, listed_rows, number_at, rows_by}
use Rattle.vpf_theme.specs.Inner.Views.{marked_left}

pub marked_yes : (l : Layout) (bytes : List ℕ) (e : Extent) (k : ℕ) → k < l.rows → is_marked bytes e.offset k ≡ true → marked_left l bytes e k ≡ (k + 1) ∷ marked_left l bytes e (k + 1)
marked_yes l bytes e k h m =
    let a : l.rows - k ≡ suc (l.rows - (k + 1)) = omega arith in
    let b : k + 1 - 1 ≡ k = omega arith in
    rw (a, b, m) refl

pub marked_no : (l : Layout) (bytes : List ℕ) (e : Extent) (k : ℕ) → k < l.rows → is_marked bytes e.offset k ≡ false → marked_left l bytes e k ≡ marked_left l bytes e (k + 1)
marked_no l bytes e k h m =
    let a : l.rows - k ≡ suc (l.rows - (k + 1)) = omega arith in
    let b : k + 1 - 1 ≡ k = omega arith in
    rw (a, b, m) refl

pub marked_count_yes : (l : Layout) (bytes : List ℕ) (e : Extent) (k marked new whole : ℕ) → k < l.rows → is_marked bytes e.offset k ≡ true → new ≡ marked + 1 → marked + length (marked_left l bytes e k) ≡ whole → new + length (marked_left l bytes e (k + 1)) ≡ whole
marked_count_yes l bytes e k marked new whole h m n c = let d = ap length (marked_yes l bytes e k h m) in omega (arith, c, d, n)

pub marked_count_no : (l : Layout) (bytes : List ℕ) (e : Extent) (k marked new whole : ℕ) → k < l.rows → is_marked bytes e.offset k ≡ false → new ≡ marked → marked + length (marked_left l bytes e k) ≡ whole → new + length (marked_left l bytes e (k + 1)) ≡ whole
marked_count_no l bytes e k marked new whole h m n c = let d = ap length (marked_no l bytes e k h m) in omega (arith, c, d, n)

count_many : (n offset : ℕ) (f : ℕ → ℕ) → length (if n == 0 then offset ∷ [] else map f (range_with_len 0 n)) ≡ max n 1
count_many zero offset f = refl
count_many (suc n) offset f =
    let ne : suc n ≡ 0 → ⊥ = λ h. omega arith in
    rw (ne_eqb (suc n) 0 ne) (length-map-range_with_len f 0 (suc n) ∙ omega arith)

pub listed_count : (l : Layout) (bytes : List ℕ) (e : Extent) → length (listed_rows l bytes e) ≡ max e.count 1
listed_count l bytes e = count_many e.count e.offset (number_at l bytes e.offset)

pub listed_by : (form : Form) (l : Layout) (bytes : List ℕ) (e : Extent) (n : ℕ) → form ≡ forms.List → n ≡ max e.count 1 → n ≡ length (rows_by form l bytes e)
listed_by form l bytes e n is m = rw is (m ∙ sym (listed_count l bytes e))
