-- Rows of one width are passed by their number.
use Rattle.std.proofs.Common.{[], ◌≡◌, ℕ, zero, suc, ◌+◌, ◌-◌, ◌*◌, ◌<◌, ◌≤◌, List, ◌∷◌, ◌++◌, length, drop, Option, Some, Result, Ok, refl, sym, ap, ◌∙◌, arith}
use Rattle.std.specs.Prelude.{slice_get}
use Rattle.std.proofs.lemmas.Bool.{lt-leb, le-ltb}
use Rattle.std.proofs.lemmas.List.{drop-append-le, drop-drop, drop_all, length-append, length-drop}
use Rattle.vpf_base.proofs.Lists.{next_item}
use Rattle.vpf_base.specs.Limits.{most_rows}
use Rattle.vpf_triplet.specs.declared.places.Place.{Place}
use Rattle.vpf_base.specs.declared.orders.Order.{Order}
use Rattle.vpf_table.specs.Inner.Widths.{add_width}
use Rattle.vpf_table.specs.Inner.WidthLaws.{added, add_by}
use Rattle.vpf_feed.specs.declared.row_form.form.Field.{Field}
use Rattle.vpf_feed.specs.Inner.RowForm.Form.{cell_size}
use Rattle.vpf_feed.specs.Inner.RowForm.Told.{told}
use Rattle.vpf_feed.specs.Inner.RowForm.Walk.{row_left, rows_to_come, sized_end}
use Rattle.vpf_feed.specs.Inner.RowForm.Widths.{told_row}
use Rattle.vpf_feed.proofs.row_form.Sizes.{told_is}
use Rattle.vpf_base.proofs.Options.{some_is}

-- one cell more
pub width_step : (o : Order) (sum x : ℕ) (total : Option ℕ) (f : Field) (fs : List Field) → told o f.kind f.count [] ≡ Some x → add_width (Some sum) (told_row o (f ∷ fs)) ≡ total → add_width (Some (sum + x)) (told_row o fs) ≡ total
width_step o sum x total f fs e h = add_by sum x (told_row o fs) ∙ (rw (← e) h)

whole_cell : (n : ℕ) (rest : List ℕ) → n ≤ length rest → sized_end n rest ≡ Ok n
whole_cell n rest h = rw (le-ltb (length rest) n h) refl

row_by : (o : Order) (f : Field) (fs : List Field) (at n : ℕ) (rest : List ℕ) → cell_size o f rest ≡ Ok n → row_left o (f ∷ fs) at rest ≡ row_left o fs (at + n) (drop n rest)
unfolding row_left
row_by o f fs at n rest e = rw e refl

no_row : (o : Order) (at : ℕ) (rest : List ℕ) → row_left o [] at rest ≡ Ok (at + 0, drop 0 rest)
unfolding row_left
no_row o at rest = let k : at ≡ at + 0 = omega arith in ap (λ (n : ℕ). Ok (n, rest)) k

-- a row is whole where there are bytes enough
pub row_whole : (o : Order) (fs : List Field) (at w : ℕ) (rest : List ℕ) → told_row o fs ≡ Some w → w ≤ length rest → row_left o fs at rest ≡ Ok (at + w, drop w rest)
row_whole o [] at w rest e h = let z : 0 ≡ w = some_is 0 w e in rw (← z) (no_row o at rest)
row_whole o (f ∷ fs) at w rest e h =
    let a = added (told o f.kind f.count []) (told_row o fs) w e in
    let first : cell_size o f rest ≡ Ok a.0 = told_is o f.kind f.count [] rest a.0 a.2 ∙ whole_cell a.0 rest (omega (arith, a.4, h)) in
    let others = row_whole o fs (at + a.0) a.1 (drop a.0 rest) a.3 (omega (arith, a.4, h, length-drop a.0 rest)) in
    let past : at + a.0 + a.1 ≡ at + w = omega (arith, a.4) in
    row_by o f fs at a.0 rest first ∙ others ∙ ap (λ (n : ℕ). Ok (n, drop a.1 (drop a.0 rest))) past ∙ ap (λ (x : List ℕ). Ok (at + w, x)) (drop-drop a.1 a.0 rest ∙ ap (λ (n : ℕ). drop n rest) a.4)

one_row : (m : ℕ) (o : Order) (fs : List Field) (done at w : ℕ) (rest : List ℕ) → 0 < length rest → row_left o fs at rest ≡ Ok (at + w, drop w rest) → rows_to_come (suc m) o fs done at rest ≡ rows_to_come m o fs (done + 1) (at + w) (drop w rest)
unfolding rows_to_come
one_row m o fs done at w rest some e = rw (lt-leb (length rest) 0 some, e) refl

some_rows : (k m : ℕ) (o : Order) (fs : List Field) (done at w : ℕ) (rest : List ℕ) → told_row o fs ≡ Some w → 0 < w → k ≤ m → k * w ≤ length rest → rows_to_come m o fs done at rest ≡ rows_to_come (m - k) o fs (done + k) (at + k * w) (drop (k * w) rest)
some_rows zero m o fs done at w rest e some few inside =
    let a : m - 0 ≡ m = omega arith in
    let b : done + 0 ≡ done = omega arith in
    let c : 0 * w ≡ 0 = omega arith in
    let d : at + 0 ≡ at = omega arith in
    rw (a, b, c, d) refl
some_rows (suc k) zero o fs done at w rest e some few inside = absurd (omega arith)
some_rows (suc k) (suc m) o fs done at w rest e some few inside =
    let more : suc k * w ≡ w + k * w = omega arith in
    let first = row_whole o fs at w rest e (omega (arith, more)) in
    let others = some_rows k m o fs (done + 1) (at + w) w (drop w rest) e some (omega arith) (omega (arith, more, length-drop w rest)) in
    let a : suc m - suc k ≡ m - k = omega arith in
    let b : done + 1 + k ≡ done + suc k = omega arith in
    let c : at + w + k * w ≡ at + suc k * w = omega (arith, more) in
    let d : drop (k * w) (drop w rest) ≡ drop (suc k * w) rest = drop-drop (k * w) w rest ∙ ap (λ (n : ℕ). drop n rest) (sym more) in
    one_row m o fs done at w rest (omega (arith, more)) first ∙ others ∙ rw (a, ← b, ← c, ← d) refl

-- so many rows are passed; a width is needed where there is one
pub rows_passed : (k m : ℕ) (o : Order) (fs : List Field) (done at w : ℕ) (rest : List ℕ) → (0 < k → 0 < w) → (0 < w → told_row o fs ≡ Some w) → k ≤ m → k * w ≤ length rest → rows_to_come m o fs done at rest ≡ rows_to_come (m - k) o fs (done + k) (at + k * w) (drop (k * w) rest)
rows_passed zero m o fs done at w rest wide told few inside =
    let a : m - 0 ≡ m = omega arith in
    let b : done + 0 ≡ done = omega arith in
    let c : 0 * w ≡ 0 = omega arith in
    let d : at + 0 ≡ at = omega arith in
    rw (a, b, c, d) refl
rows_passed (suc k) m o fs done at w rest wide told few inside = let some = wide (omega arith) in some_rows (suc k) m o fs done at w rest (told some) some few inside

-- ---- whole rows of any width

-- a cell whose size is told takes as many bytes as that
pub told_whole : (o : Order) (f : Field) (bytes : List ℕ) (n : ℕ) → told o f.kind f.count bytes ≡ Some n → n ≤ length bytes → (more : List ℕ) → cell_size o f (bytes ++ more) ≡ Ok n
told_whole o f bytes n t h more = told_is o f.kind f.count bytes more n t ∙ whole_cell n (bytes ++ more) (omega (arith, h, length-append bytes more))

-- one cell more of a row
pub cell_more : (o : Order) (all : List Field) (i used n at : ℕ) (f : Field) (bytes more : List ℕ) (whole : Result (ℕ × List ℕ) Place) → slice_get all i ≡ Some f → used ≤ length bytes → n ≤ length bytes - used
    → ((rest : List ℕ) → cell_size o f (drop used bytes ++ rest) ≡ Ok n) → row_left o (drop i all) (at + used) (drop used bytes ++ more) ≡ whole
    → row_left o (drop (i + 1) all) (at + (used + n)) (drop (used + n) bytes ++ more) ≡ whole
cell_more o all i used n at f bytes more whole e inside room size h =
    let left = next_item all i f e in
    let first = row_by o f (drop (i + 1) all) (at + used) n (drop used bytes ++ more) (size more) in
    let past : at + used + n ≡ at + (used + n) = omega arith in
    let rest : drop n (drop used bytes ++ more) ≡ drop (used + n) bytes ++ more = drop-append-le n (drop used bytes) more (omega (arith, room, length-drop used bytes)) ∙ ap (λ (x : List ℕ). x ++ more) (drop-drop n used bytes) in
    sym (rw (past, rest) at (sym h ∙ ap (λ (fs : List Field). row_left o fs (at + used) (drop used bytes ++ more)) left ∙ first))

-- a row is whole with its last cell
pub row_full : (o : Order) (all : List Field) (used at : ℕ) (bytes more : List ℕ) → row_left o (drop (length all) all) (at + used) (drop used bytes ++ more) ≡ Ok (at + used, drop used bytes ++ more)
unfolding row_left
row_full o all used at bytes more = rw (drop_all (length all) all (omega arith)) refl

-- a row that is whole is passed
pub row_passed_whole : (o : Order) (all : List Field) (done at n : ℕ) (bytes more : List ℕ) → done < most_rows → 0 < n → n ≤ length bytes → row_left o all at (bytes ++ more) ≡ Ok (at + n, drop n bytes ++ more)
    → rows_to_come (most_rows - (done + 1)) o all (done + 1) (at + n) (drop n bytes ++ more) ≡ rows_to_come (most_rows - done) o all done at (bytes ++ more)
row_passed_whole o all done at n bytes more few some inside e =
    let m : most_rows - done ≡ suc (most_rows - (done + 1)) = omega arith in
    let rest : drop n (bytes ++ more) ≡ drop n bytes ++ more = drop-append-le n bytes more inside in
    let again : row_left o all at (bytes ++ more) ≡ Ok (at + n, drop n (bytes ++ more)) = e ∙ ap (λ (x : List ℕ). Ok (at + n, x)) (sym rest) in
    sym (ap (λ (k : ℕ). rows_to_come k o all done at (bytes ++ more)) m ∙ one_row (most_rows - (done + 1)) o all done at n (bytes ++ more) (omega (arith, some, inside, length-append bytes more)) again ∙ ap (λ (x : List ℕ). rows_to_come (most_rows - (done + 1)) o all (done + 1) (at + n) x) rest)
