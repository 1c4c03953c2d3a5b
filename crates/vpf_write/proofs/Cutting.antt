-- Cells cut into rows.
use Rattle.std.specs.Prelude.{All, slice_range}
use Rattle.std.proofs.Common.{◌≡◌, ℕ, zero, suc, ◌+◌, ◌-◌, ◌/◌, ◌<◌, ◌≤◌, List, [], ◌∷◌, length, take, drop, refl, sym, ap, subst, ◌∙◌, arith}
use Rattle.std.proofs.lemmas.List.{drop-drop, length-drop, length-take}
use Rattle.std.proofs.lemmas.List.Elements.{All-head, All-tail}
use Rattle.vpf_head.specs.Head.{Head, Col}
use Rattle.vpf_table.specs.Grid.{Row}
use Rattle.vpf_table.specs.Canonical.{FitsRow}
use Rattle.vpf_write.specs.Inner.Cuts.{cut, grid_of_cells}
use Rattle.vpf_write.proofs.RowTexts.{fits_len}

pub length-cut : (w n : ℕ) (vs : Row) → length (cut w n vs) ≡ n
unfolding cut
length-cut w zero vs = refl
length-cut w (suc n) vs = ap suc (length-cut w n (drop w vs))

-- the next row of the cells from `from` on, and those from `next` on
pub record NextRow (cs : List Col) (n m : ℕ) (vs : Row) (from next : ℕ) : Type 0 where
  pub is : cut (length cs) n (drop from vs) ≡ slice_range vs from next ∷ cut (length cs) m (drop next vs)
  pub fits : FitsRow cs (slice_range vs from next)
  pub more : All (FitsRow cs) (cut (length cs) m (drop next vs))
  pub inside : next ≤ length vs

wide : (vs : Row) (from w : ℕ) → length (take w (drop from vs)) ≡ w → 0 < w → from + w ≤ length vs
wide vs from w e some = omega (arith, e, length-take w (drop from vs), length-drop from vs)

pub next_row : (cs : List Col) (n m : ℕ) (vs : Row) (from next : ℕ) → 0 < length cs → n ≡ m + 1 → next ≡ from + length cs → All (FitsRow cs) (cut (length cs) n (drop from vs)) → NextRow cs n m vs from next
unfolding cut
next_row cs n m vs from next some e f h =
    let w = length cs in
    let n_is : n ≡ suc m = omega arith in
    let width : next - from ≡ w = omega arith in
    let left : drop w (drop from vs) ≡ drop next vs = drop-drop w from vs ∙ ap (λ (k : ℕ). drop k vs) (omega arith) in
    let row : take w (drop from vs) ≡ slice_range vs from next = ap (λ (k : ℕ). take k (drop from vs)) (sym width) in
    let is : cut w n (drop from vs) ≡ slice_range vs from next ∷ cut w m (drop next vs) = rw (n_is, left, row) refl in
    let g : All (FitsRow cs) (slice_range vs from next ∷ cut w m (drop next vs)) = subst (λ (x : List Row). All (FitsRow cs) x) is h in
    let fits = All-head (FitsRow cs) _ _ g in
    let long : length (take w (drop from vs)) ≡ w = ap length row ∙ sym (fits_len cs _ fits) in
    record { is = is; fits = fits; more = All-tail (FitsRow cs) _ _ g; inside = omega (arith, wide vs from w long some) }

pub no_rows : (w n : ℕ) (vs : Row) → n ≡ 0 → cut w n vs ≡ []
unfolding cut
no_rows w n vs e = rw e refl

-- how many rows cells make
pub rows_cut : (h : Head) (cells : Row) (n w : ℕ) → n ≡ length cells → w ≡ length h.columns → n / w ≡ length cells / length h.columns
rows_cut h cells n w e f = rw (e, f) refl

pub length-rows : (h : Head) (cells : Row) → length cells / length h.columns ≡ length (grid_of_cells h cells).rows
length-rows h cells = sym (length-cut (length h.columns) (length cells / length h.columns) cells)
