use Rattle.vpf_cutting.specs.Inner.FirstLaws.{put_both}
use Rattle.vpf_cutting.proofs.firsts.put_ends.Goals as goal

pub returns : goal.returns
returns c =
    put_both c.args.ends c.args.edge c.args.firsts.now c.put_first.new.firsts c.put_first-2.new.firsts c.requires.some
    (record { nodes = c.put_first.ensures.nodes; here = c.put_first.ensures.here; others = c.put_first.ensures.others })
    (record { nodes = c.put_first-2.ensures.nodes; here = c.put_first-2.ensures.here; others = c.put_first-2.ensures.others })
