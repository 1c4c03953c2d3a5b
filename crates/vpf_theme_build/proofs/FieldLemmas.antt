-- The cells of a column that can be indexed.
use Rattle.std.proofs.Common.{◌≡◌, ℕ, zero, suc, ◌+◌, ◌<◌, ◌≤◌, ◌^◌, Bool, true, false, cond, List, [], ◌∷◌, length, map, get_or, Some, Ordering, Less, Equal, Greater, refl, ap, subst, arith}
use Rattle.std.specs.Prelude.{All, IsTrue, nat_le, slice_get}
use Rattle.std.specs.List.Sorted.{IsStrictlyIncreasing}
use Rattle.std.proofs.lemmas.Bool.Decides.{nat_tests}
use Rattle.std.proofs.lemmas.List.{length-map}
use Rattle.vpf_base.specs.Limits.{most_values}
use Rattle.vpf_triplet.specs.declared.kinds.Kind.{Kind}
use Rattle.vpf_triplet.specs.declared.kinds.Count.{Count}
use Rattle.vpf_triplet.specs.declared.kinds.Count.TheVariants.{Fixed}
use Rattle.vpf_triplet.specs.Kinds.{allows}
use Rattle.vpf_value.specs.Values.{Value, Nothing, view}
use Rattle.vpf_value.specs.Inner.Fitting.{FitsCell}
use Rattle.vpf_head.specs.Head.{Col}
use Rattle.vpf_head.specs.Inner.Soundness.{IsInBounds}
use Rattle.vpf_table.specs.Grid.{Row, Grid}
use Rattle.vpf_theme.specs.Layouts.{is_count, is_indexed}
use Rattle.vpf_theme.specs.Ordering.{same_value, value_cmp}
use Rattle.vpf_theme.specs.Entries.{Entry}
use Rattle.vpf_theme.specs.Findings.{cells_of}
use Rattle.vpf_theme.specs.Agreeing.{scan_from, scan_of}
use Rattle.vpf_theme_build.specs.declared.grouping.Spot.{Spot}
use Rattle.vpf_theme_build.specs.declared.grouping.Group.{Group}
use Rattle.vpf_theme_build.specs.Grouping.{AreOfOneField, FitColumn, IsIndexable, cells_in, entries_for, entry_for, entry_in, numbered_cells, placed_value, spot_row, seen, values_of, with_value}
use Rattle.vpf_theme_build.specs.Text.{row_size_for}
use Rattle.vpf_theme_build.specs.Inner.Writing.{AreEntries}
use Rattle.vpf_theme.specs.declared.layout.Layout.{Layout}

-- ---- what is at a position

pub some_at : (columns : List Col) (c : ℕ) → c < length columns → (column : Col) × (slice_get columns c ≡ Some column)
some_at [] c h = absurd (omega arith)
some_at (k ∷ columns) zero h = (k, refl)
some_at (k ∷ columns) (suc c) h = some_at columns c (omega arith)

-- ---- cells that fit one field

first_of : (p q : Value × ℕ) (ps qs : List (Value × ℕ)) → p ∷ ps ≡ q ∷ qs → p ≡ q
first_of p q ps qs x = cc x

rest_of : (p q : Value × ℕ) (ps qs : List (Value × ℕ)) → p ∷ ps ≡ q ∷ qs → ps ≡ qs
rest_of p q ps qs x = cc x

all_cons : (P : Value → Type 0) (v : Value) (vs : List Value) → P v → All P vs → All P (v ∷ vs)
all_cons P v vs p h zero d m = p
all_cons P v vs p h (suc k) d m = h k d (omega arith)

spot_step : (P : Value → Type 0) (spots : List Spot) (at : ℕ) (cells : List Value) → map seen spots ≡ numbered_cells at cells → All (λ (s : Spot). P (view s.cell)) spots → All P cells
spot_step P [] at [] e h = λ k d m. absurd (omega arith)
spot_step P [] at (v ∷ cells) e h = absurd (cc e)
spot_step P (s ∷ spots) at [] e h = absurd (cc e)
spot_step P (s ∷ spots) at (v ∷ cells) e h =
    let q = first_of (seen s) (v, at) (map seen spots) (numbered_cells (at + 1) cells) e in
    all_cons P v cells (subst P (ap (λ (p : Value × ℕ). p.0) q) (h zero s (omega arith))) (spot_step P spots (at + 1) cells (rest_of (seen s) (v, at) (map seen spots) (numbered_cells (at + 1) cells) e) (λ j x y. h (suc j) x (omega arith)))

pub one_field : (grid : Grid) (c : ℕ) (spots : List Spot) → c < length grid.head.columns → IsIndexable grid c → FitColumn grid c spots → map seen spots ≡ numbered_cells 1 (cells_of grid c)
    → ((kind : Kind) (count : Count) (v u : Value) → IsTrue (is_indexed kind) → FitsCell kind count v → FitsCell kind count u → value_cmp v u ≡ Equal → v ≡ u) → AreOfOneField (cells_of grid c)
one_field grid c spots h indexed fits e law i j a b k =
    let s = some_at grid.head.columns c h in
    let column = s.0 in
    let all = spot_step (FitsCell column.kind column.count) spots 1 (cells_of grid c) e (fits column s.1) in
    law column.kind column.count (get_or (cells_of grid c) i Nothing) (get_or (cells_of grid c) j Nothing) (indexed column s.1) (all i Nothing a) (all j Nothing b) k

pub length-numbered : (at : ℕ) (cells : List Value) → length (numbered_cells at cells) ≡ length cells
length-numbered at [] = refl
length-numbered at (v ∷ cells) = ap suc (length-numbered (at + 1) cells)

pub length-spots : (grid : Grid) (c : ℕ) (spots : List Spot) → map seen spots ≡ numbered_cells 1 (cells_of grid c) → length spots ≡ length grid.rows
length-spots grid c spots e =
    let a = length-map spots seen in
    let b = ap length e in
    let d = length-numbered 1 (cells_of grid c) in
    let f = length-map grid.rows (λ (row : Row). Rattle.std.specs.List.slice_index_or row c Nothing) in
    omega (arith, a, b, d, f)

-- ---- how many values

placed_len : (c : Ordering) (v u : Value) (us rest : List Value) → length rest ≤ length us + 1 → length (placed_value c v u us rest) ≤ length us + 2
placed_len Less v u us rest h = omega arith
placed_len Equal v u us rest h = omega arith
placed_len Greater v u us rest h = omega arith

with_len : (v : Value) (us : List Value) → length (with_value v us) ≤ length us + 1
with_len v [] = omega arith
with_len v (u ∷ us) = let k = placed_len (value_cmp v u) v u us (with_value v us) (with_len v us) in omega (arith, k)

pub values_len : (cells : List Value) → length (values_of cells) ≤ length cells
values_len [] = omega arith
values_len (v ∷ cells) = let k = with_len v (values_of cells) in let m = values_len cells in omega (arith, k, m)

pub groups_len : (spots : List Spot) (groups : List Group) (cells : List Value) → map (entry_in spots) groups ≡ entries_for cells → (length groups ≡ length (values_of cells)) × (length groups ≤ length cells)
groups_len spots groups cells e =
    let a = length-map groups (entry_in spots) in
    let b = ap length e in
    let d = length-map (values_of cells) (entry_for cells) in
    let k = values_len cells in
    (omega (arith, a, b, d), omega (arith, a, b, d, k))

-- ---- the rows of a scan

scan_head : (b at : ℕ) (c : Bool) (rest : List ℕ) → b < at → (0 < length rest → at < get_or rest 0 0) → 0 < length (cond c (at ∷ rest) rest) → b < get_or (cond c (at ∷ rest) rest) 0 0
scan_head b at true rest h f m = h
scan_head b at false rest h f m = let k = f m in omega (arith, k)

pub scan_above : (b at : ℕ) (v : Value) (cells : List Value) → b < at → 0 < length (scan_from at v cells) → b < get_or (scan_from at v cells) 0 0
scan_above b at v [] h m = absurd (omega arith)
scan_above b at v (u ∷ cells) h m = scan_head b at (same_value u v) (scan_from (at + 1) v cells) h (λ k. scan_above at (at + 1) v cells (omega arith) k) m

rise_cons : (x : ℕ) (xs : List ℕ) → (0 < length xs → x < get_or xs 0 0) → IsStrictlyIncreasing xs → IsStrictlyIncreasing (x ∷ xs)
rise_cons x xs h r zero m = h (omega arith)
rise_cons x xs h r (suc k) m = let e : suc k + 1 ≡ suc (k + 1) = omega arith in rw e (r k (omega arith))

rise_case : (c : Bool) (at : ℕ) (rest : List ℕ) → (0 < length rest → at < get_or rest 0 0) → IsStrictlyIncreasing rest → IsStrictlyIncreasing (cond c (at ∷ rest) rest)
rise_case true at rest h r = rise_cons at rest h r
rise_case false at rest h r = r

pub scan_rises : (at : ℕ) (v : Value) (cells : List Value) → IsStrictlyIncreasing (scan_from at v cells)
scan_rises at v [] = λ k m. absurd (omega arith)
scan_rises at v (u ∷ cells) = rise_case (same_value u v) at (scan_from (at + 1) v cells) (λ m. scan_above at (at + 1) v cells (omega arith) m) (scan_rises (at + 1) v cells)

inside_cons : (P : ℕ → Type 0) (c : Bool) (x : ℕ) (xs : List ℕ) → P x → All P xs → All P (cond c (x ∷ xs) xs)
inside_cons P false x xs p h = h
inside_cons P true x xs p h = there
  where
    there : (k d : ℕ) → k < length (x ∷ xs) → P (get_or (x ∷ xs) k d)
    there zero d m = p
    there (suc k) d m = h k d (omega arith)

pub scan_inside : (at n : ℕ) (v : Value) (cells : List Value) → 1 ≤ at → at + length cells ≤ n + 1 → All (λ row. (1 ≤ row) × (row ≤ n)) (scan_from at v cells)
scan_inside at n v [] low high = λ k d m. absurd (omega arith)
scan_inside at n v (u ∷ cells) low high = inside_cons (λ row. (1 ≤ row) × (row ≤ n)) (same_value u v) at (scan_from (at + 1) v cells) (low, omega arith) (scan_inside (at + 1) n v cells (omega arith) (omega arith))

-- ---- groups are entries

rows_of_group : (spots : List Spot) (groups : List Group) (cells vs : List Value) (k : ℕ) (d : Group) → map (entry_in spots) groups ≡ map (entry_for cells) vs → k < length groups → (v : Value) × (map spot_row (cells_in spots (get_or groups k d)) ≡ scan_of v cells)
rows_of_group spots [] cells vs k d e h = absurd (omega arith)
rows_of_group spots (g ∷ groups) cells [] k d e h = absurd (cc e)
rows_of_group spots (g ∷ groups) cells (v ∷ vs) zero d e h = (v, ap (λ (x : Entry). x.rows) (first (entry_in spots g) (entry_for cells v) (map (entry_in spots) groups) (map (entry_for cells) vs) e))
  where
    first : (p q : Entry) (ps qs : List Entry) → p ∷ ps ≡ q ∷ qs → p ≡ q
    first p q ps qs x = cc x
rows_of_group spots (g ∷ groups) cells (v ∷ vs) (suc k) d e h = rows_of_group spots groups cells vs k d (rest (entry_in spots g) (entry_for cells v) (map (entry_in spots) groups) (map (entry_for cells) vs) e) (omega arith)
  where
    rest : (p q : Entry) (ps qs : List Entry) → p ∷ ps ≡ q ∷ qs → ps ≡ qs
    rest p q ps qs x = cc x

pub are_entries : (l : Layout) (spots : List Spot) (groups : List Group) (cells : List Value) → map (entry_in spots) groups ≡ entries_for cells → l.rows ≡ length cells → l.rows < 2 ^ 24 → l.row_size ≡ row_size_for l.rows → AreEntries l spots groups
are_entries l spots groups cells e rows few size k d h =
    let r = rows_of_group spots groups cells (values_of cells) k d e h in
    record {
      size = size;
      few = few;
      inside = rw r.1 (scan_inside 1 l.rows r.0 cells (omega arith) (omega (arith, rows)));
      rise = rw r.1 (scan_rises 1 r.0 cells);
    }

-- ---- counts

pub counted : (kind : Kind) (n : ℕ) → IsInBounds (Fixed n) → allows kind (Fixed n) ≡ true → is_count kind n ≡ true
counted kind n b a =
    let x : nat_le 1 n ≡ true = grind (arith, nat_tests, b.0) in
    let y : nat_le n most_values ≡ true = grind (arith, nat_tests, b.1) in
    rw (x, y, a) refl
