use Rattle.std.proofs.Common.{◌≡◌, None, arith}
use Rattle.std.proofs.lemmas.Grind.{common_steps}
use Rattle.vpf_theme.specs.Reading.{number_line}
use Rattle.vpf_theme.proofs.FirstLemmas.{first_pass}
use Rattle.vpf_theme.proofs.checking.check_numbers.Goals as goal

pub loop-k-preserved : goal.loop-k-preserved
loop-k-preserved c =
    let line = number_line c.args.layout.now c.args.bytes.now c.args.extent.offset in
    let none : line c.loop-k.k ≡ None = grind (arith, common_steps) in
    first_pass line c.loop-k.k c.args.extent.count _ (omega arith) c.loop-k.invariant none
