-- Rows of one width stand at multiples of it.
use Rattle.std.proofs.Common.{◌≡◌, ℕ, ◌+◌, ◌-◌, Option, Some, None, refl, ap, arith}
use Rattle.vpf_table.specs.Inner.Widths.{add_width}
use Rattle.vpf_base.proofs.Options.{some_is}

pub added : (a b : Option ℕ) (w : ℕ) → add_width a b ≡ Some w → (x : ℕ) × (y : ℕ) × (a ≡ Some x) × (b ≡ Some y) × (x + y ≡ w)
added None b w e = absurd cc
added (Some a) None w e = absurd cc
added (Some a) (Some b) w e = (a, b, refl, refl, some_is (a + b) w e)

pub add_by : (sum x : ℕ) (w : Option ℕ) → add_width (Some (sum + x)) w ≡ add_width (Some sum) (add_width (Some x) w)
add_by sum x None = refl
add_by sum x (Some w) = ap (λ (k : ℕ). Some k) (omega arith)
