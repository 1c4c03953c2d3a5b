use Rattle.vpf_theme.specs.Inner.Repeating.{LeastPair}
use Rattle.vpf_theme.proofs.repeating.least_pair.Given as goal

abbrev pub invariant-loop-k : goal.invariant-loop-k
invariant-loop-k l = LeastPair l.placed l.k l.least
