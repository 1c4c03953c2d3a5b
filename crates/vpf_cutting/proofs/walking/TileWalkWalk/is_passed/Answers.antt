use Rattle.std.proofs.Common.{◌<◌, ◌^◌, arith}
use Rattle.vpf_cutting.specs.Inner.Cuts.{plan_by}
use Rattle.vpf_cutting.proofs.DartLemmas.{is_passed_over}
use Rattle.vpf_cutting.proofs.walking.TileWalkWalk.is_passed.Goals as goal

pub returns : goal.returns
returns c =
    let small : c.args.dart.edge < 2 ^ 32 = omega arith in
    is_passed_over c.args.self.now.cut.now.source (plan_by c.args.self.now.cut.now.plan) c.args.self.now.tile c.args.dart c.has_edge.result small c.requires c.has_edge.ensures
