-- Walking over cells and rows, as loops do.
use Rattle.std.proofs.Common.{◌≡◌, ℕ, ◌-◌, List, ◌∷◌, Result, Ok, Err, refl, sym, ap, ◌∙◌, ◌+◌, arith}
use Rattle.vpf_base.specs.Results.{◌>>=◌}
use Rattle.vpf_base.proofs.Results.{done, ok_is}
use Rattle.vpf_base.specs.declared.orders.Order.{Order}
use Rattle.vpf_triplet.specs.declared.places.Place.{Place}
use Rattle.vpf_findings.specs.Values.{Value}
use Rattle.vpf_head.specs.Head.{Col}
use Rattle.vpf_table.specs.Grid.{Row}
use Rattle.vpf_table.specs.Reading.{cell_in, row_at}
use Rattle.vpf_table.specs.Walking.{end_of, counted}

rest_end : (x : Value) (s : Result (Row × ℕ) Place) → end_of (s >>= λ others. Ok (x ∷ others.0, others.1)) ≡ end_of s
rest_end x (Ok r) = refl
rest_end x (Err p) = refl

step_by : (o : Order) (cs : List Col) (bytes : List ℕ) (r : Result (Value × ℕ) Place) (n : ℕ) → done n ≡ end_of r
    → end_of (r >>= λ first. row_at o cs bytes first.1 >>= λ others. Ok (first.0 ∷ others.0, others.1)) ≡ end_of (row_at o cs bytes n)
step_by o cs bytes (Ok x) n e = rest_end x.0 (row_at o cs bytes x.1) ∙ ap (λ (k : ℕ). end_of (row_at o cs bytes k)) (sym (ok_is {x = n} {y = x.1} e))
step_by o cs bytes (Err p) n e = absurd cc

pub cell_passed : (o : Order) (c : Col) (cs : List Col) (bytes : List ℕ) (at n : ℕ) → done n ≡ end_of (cell_in o c bytes at) → end_of (row_at o (c ∷ cs) bytes at) ≡ end_of (row_at o cs bytes n)
unfolding row_at
cell_passed o c cs bytes at n e = step_by o cs bytes (cell_in o c bytes at) n e

stop_by : (o : Order) (cs : List Col) (bytes : List ℕ) (r : Result (Value × ℕ) Place) (p : Place) → Err p ≡ end_of r
    → end_of (r >>= λ first. row_at o cs bytes first.1 >>= λ others. Ok (first.0 ∷ others.0, others.1)) ≡ Err p
stop_by o cs bytes (Ok x) p e = absurd cc
stop_by o cs bytes (Err q) p e = sym e

pub cell_refused : (o : Order) (c : Col) (cs : List Col) (bytes : List ℕ) (at : ℕ) (p : Place) → Err p ≡ end_of (cell_in o c bytes at) → end_of (row_at o (c ∷ cs) bytes at) ≡ Err p
unfolding row_at
cell_refused o c cs bytes at p e = stop_by o cs bytes (cell_in o c bytes at) p e

pub more_count : (before : ℕ) (r : Row) (s : Result (List Row) Place) → counted before (s >>= λ rs. Ok (r ∷ rs)) ≡ counted (before + 1) s
more_count before r (Ok rs) = ap (λ (k : ℕ). Ok k) (omega arith)
more_count before r (Err p) = refl
