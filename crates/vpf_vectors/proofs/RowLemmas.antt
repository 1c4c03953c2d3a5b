-- Rows that are put one after another.
use Rattle.std.proofs.Common.{[], ◌≡◌, false, ℕ, ◌+◌, ◌-◌, ◌≤◌, List, ◌∷◌, ◌++◌, map, sym, ap, subst, arith}
use Rattle.std.specs.List.{range_with_len}
use Rattle.std.proofs.lemmas.List.FromFn.{map-range_with_len_more}
use Rattle.vpf_vectors.specs.declared.cells.rows.EdgeRow.{EdgeRow}
use Rattle.vpf_vectors.specs.declared.cells.rows.RingRow.{RingRow}
use Rattle.vpf_head.specs.Head.{Head}
use Rattle.vpf_table.specs.Grid.{Row}
use Rattle.vpf_write.specs.Inner.Tallies.{Tally, Holds, grid_with}

-- one more row of a number
pub put_next : (w : Tally) (f : ℕ → Row) (k : ℕ) → 1 ≤ k → Holds w (map f (range_with_len 1 (k - 1)) ++ f k ∷ [])
    → Holds w (map f (range_with_len 1 (k + 1 - 1)))
put_next w f k h holds =
    let e : 1 + (k - 1) ≡ k = omega arith in
    let g : k - 1 + 1 ≡ k + 1 - 1 = omega arith in
    subst (λ j. Holds w (map f (range_with_len 1 j))) g (subst (Holds w) (sym (map-range_with_len_more f 1 (k - 1) k e)) holds)

-- the table of a header and rows
pub table_with : (w : Tally) (h : Head) (rows : List Row) → w.head ≡ h → grid_with w rows ≡ record { head = h; rows = rows }
table_with w h rows e = ap (λ (g : Head). record { head = g; rows = rows }) e

-- a row of zeros
abbrev pub no_edge : EdgeRow
no_edge = record { start_node = 0; end_node = 0; right_face = 0; left_face = 0; right_edge = 0; left_edge = 0; tile_line = false }

abbrev pub no_ring : RingRow
no_ring = record { face_id = 0; start_edge = 0 }
