-- The data of an entry that are written list its rows.
use Rattle.std.proofs.Common.{[], ◌≡◌, ℕ, zero, suc, ◌+◌, ◌*◌, ◌^◌, ◌<◌, ◌≤◌, Bool, true, false, List, ◌∷◌, ◌++◌, length, drop, get_or, refl, arith, inl, inr}
use Rattle.std.specs.Prelude.{◌==◌, All, nat_le, if◌then◌else◌}
use Rattle.std.proofs.lemmas.Bool.{leb-true, ne_eqb}
use Rattle.vpf_theme.specs.declared.layout.Form.{Form}
use Rattle.vpf_theme.specs.declared.layout.Form.TheVariants as forms
use Rattle.vpf_theme.specs.declared.layout.RowSize.{RowSize}
use Rattle.vpf_theme.specs.declared.layout.RowSize.TheVariants as sizes
use Rattle.vpf_theme.specs.declared.layout.Layout.{Layout}
use Rattle.vpf_theme.specs.declared.entries.Extent.{Extent}
use Rattle.vpf_theme.specs.Layouts.{directory_end, row_bytes}
use Rattle.vpf_theme.specs.Spelling.{AreData, HoldsRow, IsBitmap, IsList, row_numbers_text}
use Rattle.vpf_theme.specs.Inner.PieceLaws.{piece_inside}
use Rattle.vpf_theme_build.specs.Text.{bitmap_text, count_by, data_by, offset_by}
use Rattle.vpf_theme_build.specs.Inner.Writing.{AreEntryRows}
use Rattle.vpf_theme_build.proofs.MarkLemmas.{length-bitmap, marks_there}
use Rattle.vpf_theme_build.proofs.TextLemmas.{length-rows}

-- the offset and the count of an entry whose data stand at `at`
abbrev pub extent_for : Form → Layout → ℕ → List ℕ → Extent
extent_for form l at rows = record { offset = offset_by form at rows; count = count_by form l rows }

-- ---- row numbers are held

holds_case : (b : Bool) (rows n : ℕ) → nat_le rows 32767 ≡ b → rows < 2 ^ 24 → n ≤ rows → HoldsRow (if b then sizes.Short else sizes.Long) n
holds_case true rows n t few h = let k = leb-true rows 32767 t in omega (arith, k)
holds_case false rows n t few h = omega arith

held : (l : Layout) (rows : List ℕ) → AreEntryRows l rows → All (HoldsRow l.row_size) rows
held l rows r k d h = rw r.size (holds_case (nat_le l.rows 32767) l.rows (get_or rows k d) refl r.few (r.inside k d h).1)

-- ---- the data stand

abbrev is_one : List ℕ → Bool
is_one rows = length rows == 1

size_some : (size : RowSize) (n : ℕ) → n ≤ n * row_bytes size
size_some sizes.Short n = omega arith
size_some sizes.Long n = omega arith

many_stand : (l : Layout) (bytes rest : List ℕ) (at : ℕ) (rows : List ℕ) → AreEntryRows l rows → 0 < length rows → is_one rows ≡ false → directory_end l ≤ at → drop at bytes ≡ data_by forms.List l rows ++ rest → IsList l bytes (extent_for forms.List l at rows) rows
many_stand l bytes rest at rows r some t low e =
    let f = rw t at e in
    let len = length-rows l.order l.row_size rows in
    let inside = piece_inside bytes (row_numbers_text l.order l.row_size rows) at (omega (arith, len, size_some l.row_size (length rows))) (rest, f) in
    rw t (inr (record { some = some; count = refl; behind = (low, omega (arith, inside, len)); held = held l rows r; stand = (rest, f) }))

list_stands : (l : Layout) (bytes rest : List ℕ) (at : ℕ) (rows : List ℕ) → AreEntryRows l rows → 0 < length rows → directory_end l ≤ at → drop at bytes ≡ data_by forms.List l rows ++ rest → IsList l bytes (extent_for forms.List l at rows) rows
list_stands l bytes rest at [] r some low e = absurd (omega arith)
list_stands l bytes rest at (x ∷ []) r some low e = inl (refl, refl)
list_stands l bytes rest at (x ∷ y ∷ rows) r some low e = many_stand l bytes rest at (x ∷ y ∷ rows) r some (ne_eqb (length (x ∷ y ∷ rows)) 1 (λ z. omega arith)) low e

some_row : (l : Layout) (rows : List ℕ) → AreEntryRows l rows → 0 < length rows → 1 ≤ l.rows
some_row l rows r some = let k = r.inside 0 0 some in omega (arith, k.0, k.1)

bitmap_stands : (l : Layout) (bytes rest : List ℕ) (at : ℕ) (rows : List ℕ) → AreEntryRows l rows → 0 < length rows → directory_end l ≤ at → drop at bytes ≡ bitmap_text l.rows rows ++ rest → IsBitmap l bytes (extent_for forms.Bitmap l at rows) rows
bitmap_stands l bytes rest at rows r some low e =
    let len = length-bitmap l.rows rows in
    let inside = piece_inside bytes (bitmap_text l.rows rows) at (omega (arith, len, some_row l rows r some)) (rest, e) in
    record { count = refl; behind = (low, omega (arith, inside, len)); rise = r.rise; marks = λ k h. marks_there bytes rest rows at l.rows k e h }

pub data_stand : (form : Form) (l : Layout) (bytes rest : List ℕ) (at : ℕ) (rows : List ℕ) → AreEntryRows l rows → 0 < length rows → directory_end l ≤ at → drop at bytes ≡ data_by form l rows ++ rest → AreData form l bytes (extent_for form l at rows) rows
data_stand forms.List l bytes rest at rows r some low e = list_stands l bytes rest at rows r some low e
data_stand forms.Bitmap l bytes rest at rows r some low e = bitmap_stands l bytes rest at rows r some low e

-- ---- offsets and counts are small

case_small : (b : Bool) (m n : ℕ) → m < 2 ^ 32 → n < 2 ^ 32 → (if b then m else n) < 2 ^ 32
case_small true m n h k = h
case_small false m n h k = k

pub offset_small : (form : Form) (l : Layout) (at : ℕ) (rows : List ℕ) → AreEntryRows l rows → 0 < length rows → at < 2 ^ 32 → offset_by form at rows < 2 ^ 32
offset_small forms.List l at rows r some h = let k = r.inside 0 0 some in case_small (is_one rows) (get_or rows 0 0) at (omega (arith, k.1, r.few)) h
offset_small forms.Bitmap l at rows r some h = h

row_above : (l : Layout) (rows : List ℕ) (k : ℕ) → AreEntryRows l rows → k < length rows → k < get_or rows k 0
row_above l rows zero r h = let k = r.inside 0 0 h in omega (arith, k.0)
row_above l rows (suc k) r h =
    let z : k + 1 ≡ suc k = omega arith in
    let more = rw z at (r.rise k (omega arith)) in
    let below = row_above l rows k r (omega arith) in
    omega (arith, more, below)

rising_len : (l : Layout) (rows : List ℕ) (n : ℕ) → AreEntryRows l rows → length rows ≡ n → n ≤ l.rows
rising_len l rows zero r e = omega arith
rising_len l rows (suc n) r e = let a = row_above l rows n r (omega arith) in let b = r.inside n 0 (omega arith) in omega (arith, a, b.1)

pub count_small : (form : Form) (l : Layout) (rows : List ℕ) → AreEntryRows l rows → count_by form l rows < 2 ^ 32
count_small forms.List l rows r = case_small (is_one rows) 0 (length rows) (omega arith) (omega (arith, rising_len l rows (length rows) r refl, r.few))
count_small forms.Bitmap l rows r = omega (arith, r.few)
