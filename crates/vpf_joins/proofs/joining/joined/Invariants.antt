use Rattle.std.proofs.Common.{◌≡◌, take}
use Rattle.vpf_joins.specs.Inner.Prepared.{answers_of}
use Rattle.vpf_joins.proofs.joining.joined.Given as goal

abbrev pub invariant-loop-join : goal.invariant-loop-join
invariant-loop-join l = l.primitives.items ≡ answers_of (take l.join-index l.joins) l.row
