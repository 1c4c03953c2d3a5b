use Rattle.std.proofs.Common.{take}
use Rattle.std.specs.Fmt.{HasWritten, IsPlainFormatter}
use Rattle.vpf_findings.specs.Text.Bytes.{hex_bytes}
use Rattle.vpf_findings.proofs.text.bytes.HexDisplay.fmt.Given as goal

abbrev pub invariant-loop-b : goal.invariant-loop-b
invariant-loop-b g l = IsPlainFormatter l.initial.f → HasWritten g.W.Write.write_str_gives l.initial.f (hex_bytes (take l.b-index l.b-items)) l.f
