-- From one row to the next.
use Rattle.std.proofs.Common.{◌≡◌, ℕ, zero, suc, ◌+◌, ◌-◌, ◌<◌, ◌≤◌, List, [], ◌∷◌, length, drop, Some, ap, arith, inl, inr}
use Rattle.std.specs.Prelude.{IsOk, slice_get}
use Rattle.std.proofs.lemmas.Bool.{cases_lt}
use Rattle.vpf_base.specs.declared.orders.Order.{Order}
use Rattle.vpf_head.specs.Head.{Col}
use Rattle.vpf_table.specs.Grid.{Row}
use Rattle.vpf_table.specs.Reading.{row_at, rows_at}
use Rattle.vpf_table.specs.Walking.{row_of, past_of, rows_of}
use Rattle.vpf_table.proofs.RowsOpen.{rows_open, rows_closed}

-- rows are left, so one begins here
pub begins : (m : ℕ) (o : Order) (cs : List Col) (bytes : List ℕ) (at : ℕ) → 0 < length (rows_of (rows_at m o cs bytes at)) → at < length bytes
begins m o cs bytes at h = elim (cases_lt at (length bytes)) [ inl b ↦ b | inr b ↦ absurd (omega (arith, ap length (rows_closed m o cs bytes at b))) ]

pub row_step : (o : Order) (cs : List Col) (bytes : List ℕ) (at m m2 past : ℕ) → IsOk (rows_at m o cs bytes at) → 0 < length (rows_of (rows_at m o cs bytes at)) → m2 ≡ m - 1 → past ≡ past_of (row_at o cs bytes at)
    → IsOk (row_at o cs bytes at) × IsOk (rows_at m2 o cs bytes past) × (rows_of (rows_at m o cs bytes at) ≡ row_of (row_at o cs bytes at) ∷ rows_of (rows_at m2 o cs bytes past)) × (1 ≤ m)
row_step o cs bytes at m m2 past ok some e h =
    let p = rows_open m o cs bytes at ok (begins m o cs bytes at some) in
    (p.row, rw (e, h) p.rest, rw (e, h) p.is, p.some)

-- the first of the rows from i on
pub front : (all : List Row) (i : ℕ) (r : Row) (rest : List Row) → drop i all ≡ r ∷ rest → (slice_get all i ≡ Some r) × (drop (i + 1) all ≡ rest)
front [] zero r rest e = absurd cc
front [] (suc i) r rest e = absurd cc
front (x ∷ all) zero r rest e = let k : x ≡ r = cc in let t : all ≡ rest = cc in (ap (λ (z : Row). Some z) k, t)
front (x ∷ all) (suc i) r rest e = let h = front all i r rest e in let z : suc i + 1 ≡ suc (i + 1) = omega arith in (h.0, rw z h.1)
