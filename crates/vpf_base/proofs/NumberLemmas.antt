-- Numbers of 4 bytes: what is read of them is spelled so, and what is spelled so is read.
use Rattle.std.proofs.Common.{◌≡◌, ℕ, ◌^◌, ◌<◌, ◌≤◌, List, [], ◌∷◌, ◌++◌, length, take, refl, arith}
use Rattle.std.specs.Int.{w32}
use Rattle.std.proofs.lemmas.Nat.{le_bytes_4, be_bytes_4, from_le_bytes-to_le_bytes_4, from_be_bytes-to_be_bytes_4}
use Rattle.vpf_base.specs.Bytes.{IsBytes}
use Rattle.vpf_base.proofs.ByteLists.{IsBytes-take}
use Rattle.vpf_base.specs.declared.orders.Order.{Order}
use Rattle.vpf_base.specs.declared.orders.Order.TheVariants.{Little, Big}
use Rattle.vpf_base.specs.Numbers.{number, number_of}

pub length-number : (o : Order) (n : ℕ) → length (number o w32 n) ≡ 4
length-number Little n = refl
length-number Big n = refl

pub number_again : (o : Order) (n : ℕ) (rest : List ℕ) → n < 2 ^ 32 → number_of o w32 (number o w32 n ++ rest) ≡ n
number_again Little n rest h = from_le_bytes-to_le_bytes_4 n h
number_again Big n rest h = from_be_bytes-to_be_bytes_4 n h

pub number_takes : (o : Order) (bytes : List ℕ) → IsBytes bytes → 4 ≤ length bytes → number o w32 (number_of o w32 bytes) ≡ take 4 bytes
number_takes o [] fits h = absurd (omega arith)
number_takes o (x ∷ []) fits h = absurd (omega arith)
number_takes o (x ∷ y ∷ []) fits h = absurd (omega arith)
number_takes o (x ∷ y ∷ z ∷ []) fits h = absurd (omega arith)
number_takes Little (x ∷ y ∷ z ∷ w ∷ bytes) fits h = le_bytes_4 (x ∷ y ∷ z ∷ w ∷ []) _ refl (IsBytes-take 4 (x ∷ y ∷ z ∷ w ∷ bytes) fits) refl
number_takes Big (x ∷ y ∷ z ∷ w ∷ bytes) fits h = be_bytes_4 (x ∷ y ∷ z ∷ w ∷ []) _ refl (IsBytes-take 4 (x ∷ y ∷ z ∷ w ∷ bytes) fits) refl

pub number_below : (o : Order) (bytes : List ℕ) → IsBytes bytes → number_of o w32 bytes < 2 ^ 32
number_below Little bytes fits = omega (arith, fits 0, fits 1, fits 2, fits 3)
number_below Big bytes fits = omega (arith, fits 0, fits 1, fits 2, fits 3)
