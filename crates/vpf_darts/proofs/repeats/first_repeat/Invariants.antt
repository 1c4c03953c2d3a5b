use Rattle.std.proofs.Common.{◌≡◌, ℕ, ◌+◌, cond, false, length, map, take, get_or}
use Rattle.vpf_darts.specs.Darts.{dart_code}
use Rattle.vpf_darts.specs.Cycles.{count_of}
use Rattle.vpf_darts.proofs.repeats.first_repeat.Given as goal

abbrev pub invariant-loop-place : goal.invariant-loop-place
invariant-loop-place l = record {
  one_each : length l.taken.items ≡ length l.next + 2;
  counts : (x : ℕ) → count_of x (take l.place (map dart_code l.next)) ≡ cond (get_or l.taken.items x false) 1 0;
}
