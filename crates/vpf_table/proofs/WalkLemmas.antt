-- Walking over cells and rows, as loops do.
use Rattle.std.proofs.Common.{[], ◌≡◌, ℕ, zero, suc, ◌+◌, ◌-◌, ◌<◌, ◌≤◌, List, ◌∷◌, length, Result, Ok, Err, refl, sym, ap, ◌∙◌, arith}
use Rattle.std.proofs.lemmas.Bool.{lt-leb, le-leb}
use Rattle.vpf_base.specs.Limits.{most_rows}
use Rattle.vpf_base.specs.Results.{◌>>=◌}
use Rattle.vpf_base.proofs.Results.{done, ok_is}
use Rattle.vpf_base.specs.declared.orders.Order.{Order}
use Rattle.vpf_triplet.specs.declared.places.Place.{Place}
use Rattle.vpf_triplet.specs.declared.places.Code.TheVariants as codes
use Rattle.vpf_head.specs.Head.{Col}
use Rattle.vpf_triplet.specs.Places.{fault}
use Rattle.vpf_table.specs.Grid.{Row}
use Rattle.vpf_table.specs.Reading.{row_at, rows_at}
use Rattle.vpf_table.specs.Walking.{end_of, counted}
use Rattle.vpf_table.specs.Inner.WalkLaws.{more_count}

pub row_done : (o : Order) (cs : List Col) (bytes : List ℕ) (at : ℕ) → cs ≡ [] → end_of (row_at o cs bytes at) ≡ Ok at
unfolding row_at
row_done o [] bytes at e = refl
row_done o (c ∷ cs) bytes at e = absurd cc

-- ---- rows

row_step : (m before : ℕ) (o : Order) (cs : List Col) (bytes : List ℕ) (r : Result (Row × ℕ) Place) (n : ℕ) → done n ≡ end_of r
    → counted before (r >>= λ x. rows_at m o cs bytes x.1 >>= λ rs. Ok (x.0 ∷ rs)) ≡ counted (before + 1) (rows_at m o cs bytes n)
row_step m before o cs bytes (Ok x) n e = more_count before x.0 (rows_at m o cs bytes x.1) ∙ ap (λ (k : ℕ). counted (before + 1) (rows_at m o cs bytes k)) (sym (ok_is {x = n} {y = x.1} e))
row_step m before o cs bytes (Err p) n e = absurd cc

pub row_passed : (m before : ℕ) (o : Order) (cs : List Col) (bytes : List ℕ) (at n : ℕ) → (m ≡ 0 → ⊥) → at < length bytes → done n ≡ end_of (row_at o cs bytes at)
    → counted before (rows_at m o cs bytes at) ≡ counted (before + 1) (rows_at (m - 1) o cs bytes n)
unfolding rows_at
row_passed zero before o cs bytes at n z h e = absurd (z refl)
row_passed (suc m) before o cs bytes at n z h e =
    let k : suc m - 1 ≡ m = omega arith in
    rw (lt-leb _ _ h, k) (row_step m before o cs bytes (row_at o cs bytes at) n e)

row_stop : (m before : ℕ) (o : Order) (cs : List Col) (bytes : List ℕ) (r : Result (Row × ℕ) Place) (p : Place) → Err p ≡ end_of r
    → counted before (r >>= λ x. rows_at m o cs bytes x.1 >>= λ rs. Ok (x.0 ∷ rs)) ≡ Err p
row_stop m before o cs bytes (Ok x) p e = absurd cc
row_stop m before o cs bytes (Err q) p e = sym e

pub row_refused : (m before : ℕ) (o : Order) (cs : List Col) (bytes : List ℕ) (at : ℕ) (p : Place) → (m ≡ 0 → ⊥) → at < length bytes → Err p ≡ end_of (row_at o cs bytes at)
    → counted before (rows_at m o cs bytes at) ≡ Err p
unfolding rows_at
row_refused zero before o cs bytes at p z h e = absurd (z refl)
row_refused (suc m) before o cs bytes at p z h e = rw (lt-leb _ _ h) (row_stop m before o cs bytes (row_at o cs bytes at) p e)

pub rows_full : (m before : ℕ) (o : Order) (cs : List Col) (bytes : List ℕ) (at : ℕ) → m ≡ 0 → at < length bytes → counted before (rows_at m o cs bytes at) ≡ Err (fault at (codes.LimitRows (most_rows + 1)))
unfolding rows_at
rows_full zero before o cs bytes at z h = rw (lt-leb _ _ h) refl
rows_full (suc m) before o cs bytes at z h = absurd (omega arith)

pub rows_done : (m before : ℕ) (o : Order) (cs : List Col) (bytes : List ℕ) (at : ℕ) → length bytes ≤ at → counted before (rows_at m o cs bytes at) ≡ Ok before
unfolding rows_at
rows_done zero before o cs bytes at h = rw (le-leb _ _ h) (ap (λ (k : ℕ). Ok k) (omega arith))
rows_done (suc m) before o cs bytes at h = rw (le-leb _ _ h) (ap (λ (k : ℕ). Ok k) (omega arith))
