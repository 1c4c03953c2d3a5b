-- The first of the rows that are left.
use Rattle.std.proofs.Common.{◌≡◌, ℕ, zero, suc, ◌-◌, ◌<◌, ◌≤◌, List, [], ◌∷◌, length, Result, Ok, Err, refl, arith}
use Rattle.std.specs.Prelude.{IsOk}
use Rattle.std.proofs.lemmas.Bool.{lt-leb, le-leb}
use Rattle.vpf_base.specs.Results.{◌>>=◌}
use Rattle.vpf_base.specs.declared.orders.Order.{Order}
use Rattle.vpf_triplet.specs.declared.places.Place.{Place}
use Rattle.vpf_head.specs.Head.{Col}
use Rattle.vpf_table.specs.Grid.{Row}
use Rattle.vpf_table.specs.Reading.{row_at, rows_at}
use Rattle.vpf_table.specs.Walking.{row_of, past_of, rows_of}

pub record RowsOpen (m : ℕ) (o : Order) (cs : List Col) (bytes : List ℕ) (at : ℕ) : Type 0 where
  pub some : 1 ≤ m
  pub row : IsOk (row_at o cs bytes at)
  pub rest : IsOk (rows_at (m - 1) o cs bytes (past_of (row_at o cs bytes at)))
  pub is : rows_of (rows_at m o cs bytes at) ≡ row_of (row_at o cs bytes at) ∷ rows_of (rows_at (m - 1) o cs bytes (past_of (row_at o cs bytes at)))

abbrev put : Row → Result (List Row) Place → Result (List Row) Place
put r s = s >>= λ rs. Ok (r ∷ rs)

put_ok : (r : Row) (s : Result (List Row) Place) → IsOk (put r s) → IsOk s × (rows_of (put r s) ≡ r ∷ rows_of s)
put_ok r (Ok rs) h = (refl, refl)
put_ok r (Err p) h = absurd cc

abbrev then_rows : ℕ → Order → List Col → List ℕ → Result (Row × ℕ) Place → Result (List Row) Place
then_rows m o cs bytes r = r >>= λ x. rows_at m o cs bytes x.1 >>= λ rs. Ok (x.0 ∷ rs)

open_by : (m : ℕ) (o : Order) (cs : List Col) (bytes : List ℕ) (r : Result (Row × ℕ) Place) → IsOk (then_rows m o cs bytes r)
    → IsOk r × IsOk (rows_at m o cs bytes (past_of r)) × (rows_of (then_rows m o cs bytes r) ≡ row_of r ∷ rows_of (rows_at m o cs bytes (past_of r)))
open_by m o cs bytes (Ok x) h = let p = put_ok x.0 (rows_at m o cs bytes x.1) h in (refl, p.0, p.1)
open_by m o cs bytes (Err p) h = absurd cc

pub rows_open : (m : ℕ) (o : Order) (cs : List Col) (bytes : List ℕ) (at : ℕ) → IsOk (rows_at m o cs bytes at) → at < length bytes → RowsOpen m o cs bytes at
unfolding rows_at
rows_open zero o cs bytes at h more = absurd (let e = rw (lt-leb _ _ more) at h in cc)
rows_open (suc m) o cs bytes at h more =
    let k : suc m - 1 ≡ m = omega arith in
    let g : IsOk (then_rows m o cs bytes (row_at o cs bytes at)) = rw (lt-leb (length bytes) at more) at h in
    let p = open_by m o cs bytes (row_at o cs bytes at) g in
    record { some = omega arith; row = p.0; rest = rw k p.1; is = rw (lt-leb (length bytes) at more, k) p.2 }

pub rows_closed : (m : ℕ) (o : Order) (cs : List Col) (bytes : List ℕ) (at : ℕ) → length bytes ≤ at → rows_of (rows_at m o cs bytes at) ≡ []
unfolding rows_at
rows_closed zero o cs bytes at h = rw (le-leb _ _ h) refl
rows_closed (suc m) o cs bytes at h = rw (le-leb _ _ h) refl
