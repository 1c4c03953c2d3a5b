use Rattle.std.proofs.Common.{take}
use Rattle.vpf_theme.specs.Inner.Keeping.{HoldMarks}
use Rattle.vpf_theme.proofs.marking.marks_of.Given as goal

abbrev pub invariant-loop-i : goal.invariant-loop-i
invariant-loop-i l = HoldMarks (take l.i l.theme.entries) l.theme.rows l.marks.items
