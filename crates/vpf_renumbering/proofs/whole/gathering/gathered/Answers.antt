use Rattle.vpf_prims.specs.Libraries.{library_of}
use Rattle.vpf_renumbering.proofs.whole.OrderLemmas.{none_yet}
use Rattle.vpf_renumbering.proofs.whole.gathering.gathered.Goals as goal

pub loop-number-init : goal.loop-number-init
loop-number-init c = rw c.new-darts.ensures.items (none_yet (library_of c.args.coverage.now))
