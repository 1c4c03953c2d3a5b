use Rattle.std.proofs.Common.{◌≡◌, ◌+◌, length}
use Rattle.vpf_wing.proofs.FirstLemmas.{HoldSoFar}
use Rattle.vpf_wing.proofs.firsts.FirstByNumber.new.Given as goal

abbrev pub invariant-loop-k : goal.invariant-loop-k
invariant-loop-k l = record {
  room : length l.firsts.items ≡ l.last + 1;
  firsts : HoldSoFar l.key-items l.firsts.items l.k;
}
