-- What is read of a tree, and how many bytes that is.
use Rattle.std.proofs.Common.{◌≡◌, ap}

-- a pair by its first part
pub with_first : {A B : Type 0} (p : A × B) (a : A) → p.0 ≡ a → p ≡ (a, p.1)
with_first (x, y) a e = ap (λ z. (z, y)) e
