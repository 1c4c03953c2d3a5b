-- The rows that are looked at, one after another.
use Rattle.std.proofs.Common.{[], ◌≡◌, ℕ, zero, suc, ◌+◌, ◌-◌, ◌<◌, ◌≤◌, Bool, true, false, cond, List, ◌∷◌, ◌++◌, map, length, get_or, Some, append_assoc, refl, sym, ap, ◌∙◌, arith}
use Rattle.std.specs.Prelude.{slice_get, slice_index_or}
use Rattle.std.proofs.lemmas.List.{append-nil, length-map}
use Rattle.std.proofs.lemmas.List.Elements.{All-cons, All-nil}
use Rattle.std.proofs.lemmas.Option.{get_or_from_slice_get}
use Rattle.vpf_theme.specs.Inner.WalkLaws.{row_first, rows_rest}
use Rattle.vpf_value.specs.Values.{Value, Nothing}
use Rattle.vpf_table.specs.Grid.{Grid, Row}
use Rattle.vpf_theme.specs.Ordering.{same_value}
use Rattle.vpf_theme.specs.Findings.{cell_of, cells_of}
use Rattle.vpf_theme.specs.Agreeing.{scan_from, scan_of}
use Rattle.vpf_theme.specs.Inner.KeyLaws.{same_yes, same_no}
use Rattle.vpf_theme.specs.Entries.{AreRows}
use Rattle.vpf_select.specs.Inner.Passing.{first_unmet, met_by}
use Rattle.vpf_select.specs.Selecting.{first_unlike}

-- the cell of a row at the position of a column
abbrev pub cell_in : ℕ → Row → Value
cell_in c row = slice_index_or row c Nothing

-- ---- the scan

pub scan_hit : (v : Value) (c k : ℕ) (found more whole : List ℕ) (row : Row) (cell : Value) (rows rest : List Row) → rows ≡ row ∷ rest → slice_get row c ≡ Some cell → cell ≡ v → more ≡ found ++ (k + 1) ∷ [] → found ++ scan_from (k + 1) v (map (cell_in c) rows) ≡ whole → more ++ scan_from (k + 1 + 1) v (map (cell_in c) rest) ≡ whole
scan_hit v c k found more whole row cell rows rest steps at is pushed done =
    let t : same_value (cell_in c row) v ≡ true = same_yes (cell_in c row) v (get_or_from_slice_get row c cell Nothing at ∙ is) in
    let d = rw steps at done in
    let e = rw t at d in
    rw (pushed, append_assoc) e

pub scan_miss : (v : Value) (c k : ℕ) (found whole : List ℕ) (row : Row) (cell : Value) (rows rest : List Row) → rows ≡ row ∷ rest → slice_get row c ≡ Some cell → (cell ≡ v → ⊥) → found ++ scan_from (k + 1) v (map (cell_in c) rows) ≡ whole → found ++ scan_from (k + 1 + 1) v (map (cell_in c) rest) ≡ whole
scan_miss v c k found whole row cell rows rest steps at other done =
    let t : same_value (cell_in c row) v ≡ false = same_no (cell_in c row) v (λ e. other (sym (get_or_from_slice_get row c cell Nothing at) ∙ e)) in
    let d = rw steps at done in
    rw t at d

pub scan_done : (v : Value) (c k : ℕ) (found whole : List ℕ) (rows : List Row) → rows ≡ [] → found ++ scan_from (k + 1) v (map (cell_in c) rows) ≡ whole → found ≡ whole
scan_done v c k found whole rows end done = let d = rw end at done in sym (append-nil found) ∙ d

-- ---- which rows meet the test

pub same_bit : (v u : Value) (same : Bool) → (same ≡ true → v ≡ u) → (v ≡ u → same ≡ true) → same_value v u ≡ same
same_bit v u true told back = same_yes v u (told refl)
same_bit v u false told back = same_no v u (λ e. cc (back e))

pub met_more : (v : Value) (c : ℕ) (met more whole : List Bool) (bit : Bool) (row : Row) (cell : Value) (rows rest : List Row) → rows ≡ row ∷ rest → slice_get row c ≡ Some cell → same_value cell v ≡ bit → more ≡ met ++ bit ∷ [] → met ++ met_by v (map (cell_in c) rows) ≡ whole → more ++ met_by v (map (cell_in c) rest) ≡ whole
met_more v c met more whole bit row cell rows rest steps at is pushed done =
    let t : same_value (cell_in c row) v ≡ bit = ap (λ (x : Value). same_value x v) (get_or_from_slice_get row c cell Nothing at) ∙ is in
    let d = rw steps at done in
    let e = rw t at d in
    rw (pushed, append_assoc) e

-- ---- the rows of an entry

pub found_more : (row : ℕ) (found more rows rest whole : List ℕ) → rows ≡ row ∷ rest → more ≡ found ++ row ∷ [] → found ++ rows ≡ whole → more ++ rest ≡ whole
found_more row found more rows rest whole steps pushed done = let d = rw steps at done in rw (pushed, append_assoc) d

map_at : (rows : List Row) (k c : ℕ) (row : Row) → slice_get rows k ≡ Some row → get_or (map (cell_in c) rows) k Nothing ≡ cell_in c row
map_at [] k c row h = absurd (cc h)
map_at (r ∷ rows) zero c row h = let e : r ≡ row = cc h in ap (cell_in c) e
map_at (r ∷ rows) (suc k) c row h = map_at rows k c row h

-- the cell of the row that is looked at
pub cell_seen : (grid : Grid) (c row : ℕ) (seen : Row) (cell : Value) → slice_get grid.rows (row - 1) ≡ Some seen → slice_get seen c ≡ Some cell → cell_of (cells_of grid c) row ≡ cell
cell_seen grid c row seen cell h at = map_at grid.rows (row - 1) c seen h ∙ get_or_from_slice_get seen c cell Nothing at

-- ---- the rows that meet the test, and those that are listed

-- a row of the table meets the test where its cell has the value
met_at : (v : Value) (cells : List Value) (k : ℕ) → k < length cells → slice_index_or (met_by v cells) k false ≡ same_value (slice_index_or cells k Nothing) v
met_at v [] k h = absurd (omega arith)
met_at v (cell ∷ cells) zero h = refl
met_at v (cell ∷ cells) (suc k) h = met_at v cells k (omega arith)

pub unmet_other : (v : Value) (cells : List Value) (rows : List ℕ) → AreRows (length cells) rows → first_unmet (met_by v cells) rows ≡ first_unlike v cells rows
unmet_other v cells [] h = refl
unmet_other v cells (row ∷ rows) h =
    let first = row_first (length cells) row (row ∷ rows) rows refl h in
    let same : slice_index_or (met_by v cells) (row - 1) false ≡ same_value (cell_of cells row) v = met_at v cells (row - 1) (omega (arith, first.0, first.1)) in
    rw (same, unmet_other v cells rows (rows_rest (length cells) row (row ∷ rows) rows refl h)) refl

-- ---- the rows that are found are rows of the table

rows_case : (b : Bool) (n at : ℕ) (rest : List ℕ) → 1 ≤ at → at ≤ n → AreRows n rest → AreRows n (cond b (at ∷ rest) rest)
rows_case true n at rest first last h = All-cons (λ row. (1 ≤ row) × (row ≤ n)) at rest (first, last) h
rows_case false n at rest first last h = h

scan_from_rows : (n at : ℕ) (v : Value) (cells : List Value) → 1 ≤ at → at + length cells ≡ n + 1 → AreRows n (scan_from at v cells)
scan_from_rows n at v [] first count = All-nil (λ row. (1 ≤ row) × (row ≤ n))
scan_from_rows n at v (cell ∷ cells) first count =
    rows_case (same_value cell v) n at (scan_from (at + 1) v cells) first (omega (arith, count)) (scan_from_rows n (at + 1) v cells (omega arith) (omega (arith, count)))

pub scan_rows : (v : Value) (grid : Grid) (c : ℕ) → AreRows (length grid.rows) (scan_of v (cells_of grid c))
scan_rows v grid c =
    let many = length-map grid.rows (cell_in c) in
    scan_from_rows (length grid.rows) 1 v (cells_of grid c) (omega arith) (omega (arith, many))
