use Rattle.std.proofs.Common.{arith}
use Rattle.vpf_theme.specs.Reading.{entry_line}
use Rattle.vpf_theme.proofs.FirstLemmas.{first_pass}
use Rattle.vpf_theme.proofs.checking.check_entries.Goals as goal

pub loop-i-preserved : goal.loop-i-preserved
loop-i-preserved c = first_pass (entry_line c.args.layout.now c.args.bytes.now) c.loop-i.i c.args.layout.now.entries _ (omega arith) c.loop-i.invariant c.in_ok-check_entry.ensures
