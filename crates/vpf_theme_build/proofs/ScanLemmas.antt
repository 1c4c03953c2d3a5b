-- The index that is built of a column agrees with it.
use Rattle.std.proofs.Common.{◌≡◌, ℕ, zero, suc, ◌+◌, ◌-◌, ◌<◌, ◌≤◌, Bool, true, false, cond, List, [], ◌∷◌, length, map, get_or, Less, Equal, refl, ◌∙◌, arith}
use Rattle.std.specs.Prelude.{All, Contains, IsTrue}
use Rattle.std.specs.Cmp.{IsTotalOrder}
use Rattle.std.proofs.lemmas.List.{get_or-map, length-map}
use Rattle.vpf_triplet.specs.declared.kinds.Kind.{Kind}
use Rattle.vpf_triplet.specs.declared.kinds.Count.{Count}
use Rattle.vpf_triplet.specs.declared.kinds.Count.TheVariants.{Fixed}
use Rattle.vpf_value.specs.Values.{Value, Nothing}
use Rattle.vpf_value.specs.Inner.Fitting.{FitsCell}
use Rattle.vpf_head.specs.Head.{Col}
use Rattle.vpf_theme.specs.declared.layout.Form.{Form}
use Rattle.vpf_theme.specs.Layouts.{is_indexed}
use Rattle.vpf_theme.specs.Ordering.{same_value, value_cmp}
use Rattle.vpf_theme.specs.Entries.{Entry}
use Rattle.vpf_theme.specs.Findings.{no_entry}
use Rattle.vpf_theme.specs.Agreeing.{AgreesWithColumn, scan_from}
use Rattle.vpf_theme.specs.Inner.KeyLaws.{Decides-same_value, same_yes}
use Rattle.vpf_theme_build.specs.Building.{index_for}
use Rattle.vpf_theme_build.specs.Grouping.{AreOfOneField, entries_for, entry_for, values_of}
use Rattle.vpf_theme_build.proofs.EntryLists.{AllAbove, Rising, apart}
use Rattle.vpf_theme_build.proofs.FieldLemmas.{scan_rises}
use Rattle.vpf_theme_build.proofs.SortLemmas.{place_of, told_cells}
use Rattle.vpf_theme_build.proofs.ValueLists.{entries_for_rising, is_cell, own_cell, values_have}

-- ---- the rows of a scan

contains_more : (c : Bool) (x : ℕ) (xs : List ℕ) (r : ℕ) → Contains xs r → Contains (cond c (x ∷ xs) xs) r
contains_more true x xs r h = (suc h.0, omega (arith, h.1), h.2)
contains_more false x xs r h = h

scan_has : (at : ℕ) (v : Value) (cells : List Value) (k : ℕ) → k < length cells → get_or cells k Nothing ≡ v → Contains (scan_from at v cells) (at + k)
scan_has at v [] k h e = absurd (omega arith)
scan_has at v (u ∷ cells) zero h e = let z : at + zero ≡ at = omega arith in rw (z, same_yes u v e) (zero, omega arith, refl)
scan_has at v (u ∷ cells) (suc k) h e =
    let z : at + suc k ≡ at + 1 + k = omega arith in
    rw z (contains_more (same_value u v) at (scan_from (at + 1) v cells) (at + 1 + k) (scan_has (at + 1) v cells k (omega arith) e))

-- what stands in a scan
record Scanned (at : ℕ) (v : Value) (r : ℕ) (cells : List Value) : Type 0 where
  low : at ≤ r
  high : r < at + length cells
  cell : get_or cells (r - at) Nothing ≡ v

later : (at : ℕ) (v : Value) (r : ℕ) (u : Value) (cells : List Value) → Scanned (at + 1) v r cells → Scanned at v r (u ∷ cells)
later at v r u cells s = let e : r - at ≡ suc (r - (at + 1)) = omega (arith, s.low) in record { low = omega (arith, s.low); high = omega (arith, s.high); cell = rw e s.cell }

scan_case : (c : Bool) (at : ℕ) (v : Value) (r : ℕ) (u : Value) (cells : List Value) (rest : List ℕ) → same_value u v ≡ c → (Contains rest r → Scanned (at + 1) v r cells) → (k : ℕ) → k < length (cond c (at ∷ rest) rest) → get_or (cond c (at ∷ rest) rest) k r ≡ r → Scanned at v r (u ∷ cells)
scan_case true at v r u cells rest t f zero h e = let z : r - at ≡ 0 = omega arith in record { low = omega arith; high = omega arith; cell = rw z ((Decides-same_value u v).0 t) }
scan_case true at v r u cells rest t f (suc k) h e = later at v r u cells (f (k, omega arith, e))
scan_case false at v r u cells rest t f k h e = later at v r u cells (f (k, h, e))

scan_only : (at : ℕ) (v : Value) (r : ℕ) (cells : List Value) → Contains (scan_from at v cells) r → Scanned at v r cells
scan_only at v r [] h = absurd (omega (arith, h.1))
scan_only at v r (u ∷ cells) h = scan_case (same_value u v) at v r u cells (scan_from (at + 1) v cells) refl (scan_only (at + 1) v r cells) h.0 h.1 h.2

-- ---- entries by their places

entry-for : (cells vs : List Value) (i : ℕ) → i < length vs → get_or (map (entry_for cells) vs) i no_entry ≡ entry_for cells (get_or vs i Nothing)
entry-for cells vs i h = get_or-map (entry_for cells) vs i Nothing no_entry h

above_at : (v : Value) (es : List Entry) (j : ℕ) → AllAbove v es → j < length es → value_cmp v (get_or es j no_entry).value ≡ Less
above_at v [] j a h = absurd (omega arith)
above_at v (e ∷ es) zero a h = a.0
above_at v (e ∷ es) (suc j) a h = above_at v es j a.1 (omega arith)

rising_at : (es : List Entry) (i j : ℕ) → Rising es → i < j → j < length es → value_cmp (get_or es i no_entry).value (get_or es j no_entry).value ≡ Less
rising_at [] i j r a b = absurd (omega arith)
rising_at (e ∷ es) zero zero r a b = absurd (omega arith)
rising_at (e ∷ es) (suc i) zero r a b = absurd (omega arith)
rising_at (e ∷ es) zero (suc j) r a b = above_at e.value es j r.0 (omega arith)
rising_at (e ∷ es) (suc i) (suc j) r a b = rising_at es i j r.1 (omega arith) (omega arith)

-- cells that fit one field
field_of : (kind : Kind) (count : Count) (cells : List Value) → is_indexed kind ≡ true → All (FitsCell kind count) cells → ((kind : Kind) (count : Count) (v u : Value) → IsTrue (is_indexed kind) → FitsCell kind count v → FitsCell kind count u → value_cmp v u ≡ Equal → v ≡ u) → AreOfOneField cells
field_of kind count cells i f law a b h k e = law kind count (get_or cells a Nothing) (get_or cells b Nothing) i (f a Nothing h) (f b Nothing k) e

value_place : (cells : List Value) (v : Value) → AreOfOneField cells → is_cell cells v ≡ true → (i : ℕ) × (i < length (values_of cells)) × (get_or (values_of cells) i Nothing ≡ v)
value_place cells v field h = place_of (values_of cells) v (values_have cells (told_cells cells field) v ∙ h)

pub built_agrees : IsTotalOrder value_cmp → (form : Form) (column : Col) (count : ℕ) (cells : List Value) → column.count ≡ Fixed count → AreOfOneField cells → AgreesWithColumn (index_for form column count cells) column cells
built_agrees o form column count cells fixed field =
    let vs = values_of cells in
    let len = length-map vs (entry_for cells) in
    record {
      kind = refl;
      count = fixed;
      rows = refl;
      differ = λ i j a b e. apart o (get_or (entries_for cells) i no_entry).value (get_or (entries_for cells) j no_entry).value (rising_at (entries_for cells) i j (entries_for_rising o cells) a b) e;
      stands = λ row low high.
          let k : row - 1 < length cells = omega arith in
          let v = get_or cells (row - 1) Nothing in
          let p = value_place cells v field (own_cell cells (row - 1) k) in
          let e = entry-for cells vs p.0 p.1 in
          let z : 1 + (row - 1) ≡ row = omega arith in
          let c = scan_has 1 v cells (row - 1) k refl in
          let d = rw z at c in
          (p.0, omega (arith, len, p.1), rw e p.2, rw (e, p.2) d);
      only = λ i row h c.
          let m : i < length vs = omega (arith, len) in
          let e = entry-for cells vs i m in
          let d = rw e at c in
          let s = scan_only 1 (get_or vs i Nothing) row cells d in
          (s.low, omega (arith, s.high), rw e s.cell);
      rise = λ i h.
          let m : i < length vs = omega (arith, len) in
          rw (entry-for cells vs i m) (scan_rises 1 (get_or vs i Nothing) cells);
    }

pub built_index_agrees : IsTotalOrder value_cmp → ((kind : Kind) (count : Count) (v u : Value) → IsTrue (is_indexed kind) → FitsCell kind count v → FitsCell kind count u → value_cmp v u ≡ Equal → v ≡ u) → (form : Form) (column : Col) (count : ℕ) (cells : List Value) → column.count ≡ Fixed count → is_indexed column.kind ≡ true → All (FitsCell column.kind column.count) cells → AgreesWithColumn (index_for form column count cells) column cells
built_index_agrees o law form column count cells fixed indexed fits = built_agrees o form column count cells fixed (field_of column.kind column.count cells indexed fits law)
