-- How many rows there may be.
use Rattle.std.proofs.Common.{◌≡◌, ℕ, zero, suc, ◌-◌, ◌≤◌, List, ◌∷◌, length, ap, arith, inl, inr}
use Rattle.std.specs.Prelude.{IsOk}
use Rattle.std.proofs.lemmas.Bool.{cases_lt}
use Rattle.vpf_base.specs.declared.orders.Order.{Order}
use Rattle.vpf_head.specs.Head.{Col}
use Rattle.vpf_table.specs.Reading.{row_at, rows_at}
use Rattle.vpf_table.specs.Walking.{row_of, past_of, rows_of}
use Rattle.vpf_table.proofs.RowsOpen.{rows_open, rows_closed}

-- no more rows are read than may be begun
pub rows_few : (m : ℕ) (o : Order) (cs : List Col) (bytes : List ℕ) (at : ℕ) → IsOk (rows_at m o cs bytes at) → length (rows_of (rows_at m o cs bytes at)) ≤ m
rows_few zero o cs bytes at ok = elim (cases_lt at (length bytes)) [
  | inl more ↦ (let p = rows_open zero o cs bytes at ok more in absurd (omega (arith, p.some)))
  | inr none ↦ omega (arith, ap length (rows_closed zero o cs bytes at none))
]
rows_few (suc m) o cs bytes at ok = elim (cases_lt at (length bytes)) [
  | inl more ↦ (
      let p = rows_open (suc m) o cs bytes at ok more in
      let k : suc m - 1 ≡ m = omega arith in
      let rest : IsOk (rows_at m o cs bytes (past_of (row_at o cs bytes at))) = rw k at p.rest in
      let is : rows_of (rows_at (suc m) o cs bytes at) ≡ row_of (row_at o cs bytes at) ∷ rows_of (rows_at m o cs bytes (past_of (row_at o cs bytes at))) = rw k at p.is in
      omega (arith, ap length is, rows_few m o cs bytes (past_of (row_at o cs bytes at)) rest))
  | inr none ↦ omega (arith, ap length (rows_closed (suc m) o cs bytes at none))
]
