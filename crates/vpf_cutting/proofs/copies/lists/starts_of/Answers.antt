use Rattle.vpf_cutting.proofs.copies.StartLemmas.{starts_more}
use Rattle.vpf_cutting.proofs.copies.lists.starts_of.Goals as goal

pub loop-k-preserved : goal.loop-k-preserved
loop-k-preserved c = starts_more c.args.pairs.now c.loop-k.k c.start_of.result c.loop-k.starts.items c.push.new.self.items c.in_ok-push.ensures.items c.start_of.ensures c.loop-k.invariant
