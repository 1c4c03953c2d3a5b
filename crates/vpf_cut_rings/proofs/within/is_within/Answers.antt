use Rattle.vpf_cutting.specs.Inner.Cuts.{plan_by}
use Rattle.vpf_cut_rings.proofs.WithinLemmas.{edge_of_tile}
use Rattle.vpf_cut_rings.proofs.within.is_within.Goals as goal

pub face-face-requires : goal.face-face-requires
face-face-requires c = (edge_of_tile c.args.cut.now.source (plan_by c.args.cut.now.plan) c.args.tile c.args.dart.edge c.args.dart.minus c.requires).row
