-- Two steps of reading, one behind the other, proved: where both come to a value, each does.
use Rattle.std.proofs.Common.{◌≡◌, ℕ, Ok, Err, refl, ap}
use Rattle.vpf_library_files.specs.Loading.Loading.{Read, ◌and_then◌}
use Rattle.vpf_library_files.specs.declared.loading.loading.LoadStop.{LoadStop}

-- what comes of reading so many bytes
abbrev pub came : {V : Type 0} → V → ℕ → Read V
came v n = (Ok v, n)

-- the value and the count of what was read
pub value_same : {V : Type 0} (v w : V) (n k : ℕ) → came v n ≡ came w k → v ≡ w
value_same {V = V} v w n k e = let f : (came v n).0 ≡ (came w k).0 = ap (λ (p : Read V). p.0) e in cc

pub count_same : {V : Type 0} (v w : V) (n k : ℕ) → came v n ≡ came w k → n ≡ k
count_same {V = V} v w n k e = ap (λ (p : Read V). p.1) e

-- what stops reading is no value
pub no_stop : {V : Type 0} (stop : LoadStop) (w : V) (n k : ℕ) (r : Read V) → r ≡ (Err stop, n) → r ≡ came w k → ⊥
no_stop {V = V} stop w n k r a e = let f : r.0 ≡ Ok w = ap (λ (p : Read V). p.0) e in let g : r.0 ≡ Err stop = ap (λ (p : Read V). p.0) a in absurd cc

-- two steps that come to a value: so does the first, and the second behind it
pub record BothOk {V W : Type 0} (first : Read V) (next : V → ℕ → Read W) (w : W) (k : ℕ) : Type 0 where
  pub value : V
  pub count : ℕ
  pub comes : first ≡ (Ok value, count)
  pub then : next value count ≡ (Ok w, k)

pub both_ok : {V W : Type 0} (first : Read V) (next : V → ℕ → Read W) (w : W) (k : ℕ) → (first and_then next) ≡ (Ok w, k) → BothOk first next w k
both_ok (Ok v, n) next w k e = record { value = v; count = n; comes = refl; then = e }
both_ok {W = W} (Err stop, n) next w k e = absurd (no_stop {V = W} stop w n k (Err stop, n) refl e)
