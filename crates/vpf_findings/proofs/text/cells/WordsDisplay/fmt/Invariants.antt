use Rattle.std.proofs.Common.{take}
use Rattle.std.specs.Fmt.{HasWritten, IsPlainFormatter}
use Rattle.vpf_value.specs.Inner.Coordinates.{words}
use Rattle.vpf_findings.specs.Text.Cells.{words_text}
use Rattle.vpf_findings.proofs.text.cells.WordsDisplay.fmt.Given as goal

abbrev pub invariant-loop-i : goal.invariant-loop-i
invariant-loop-i g l = IsPlainFormatter l.initial.f → HasWritten g.W.Write.write_str_gives l.initial.f (words_text l.tuple_len l.width 0 (take l.i (words l.coords))) l.f
