-- What a reading that comes to a value says of its steps.
use Rattle.std.proofs.Common.{◌≡◌, ℕ, Ok, refl}
use Rattle.vpf_library_files.specs.Inner.Loading.StepLaws.{gives}

-- a value and a count in other words
pub both_same : {V : Type 0} (x y : V) (m n : ℕ) → x ≡ y → m ≡ n → gives x m ≡ (Ok y, n)
both_same x y m n e f = rw (e, f) refl
