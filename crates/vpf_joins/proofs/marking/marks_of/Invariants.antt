use Rattle.std.proofs.Common.{take}
use Rattle.vpf_joins.specs.Features.{AreMarked}
use Rattle.vpf_joins.proofs.marking.marks_of.Given as goal

abbrev pub invariant-loop-row : goal.invariant-loop-row
invariant-loop-row l = AreMarked l.n (take l.row-index l.rows) l.marks.items
