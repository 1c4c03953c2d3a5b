-- Items of lists by their numbers, from 1.
use Rattle.std.proofs.Common.{◌≡◌, ℕ, zero, suc, ◌-◌, ◌≤◌, Some, List, arith}
use Rattle.std.specs.Prelude.{slice_get}
use Rattle.std.proofs.lemmas.Option.{get_or_from_slice_get}
use Rattle.vpf_prims.specs.Lists.{kth}

-- what is found at a place is the item of the next number
pub item_found : {X : Type 0} (xs : List X) (k : ℕ) (d x : X) → 1 ≤ k → slice_get xs (k - 1) ≡ Some x → kth xs k d ≡ x
item_found xs zero d x low some = absurd (omega arith)
item_found xs (suc k) d x low some = let e : suc k - 1 ≡ k = omega arith in get_or_from_slice_get xs k x d (rw e at some)
