use Rattle.std.proofs.Common.{◌≡◌, ℕ, ◌<◌, get_or}
use Rattle.vpf_value.specs.Inner.Coordinates.{words}
use Rattle.vpf_value.proofs.comparing.same_words.Given as goal

abbrev pub invariant-loop-i : goal.invariant-loop-i
invariant-loop-i l = (k : ℕ) → k < l.i → get_or (words l.a) k 0 ≡ get_or (words l.b) k 0
