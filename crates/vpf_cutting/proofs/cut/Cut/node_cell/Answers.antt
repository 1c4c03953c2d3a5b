use Rattle.std.proofs.Common.{◌∙◌}
use Rattle.vpf_darts.specs.Darts.{dart_code}
use Rattle.vpf_cutting.specs.Inner.Cuts.{plan_by}
use Rattle.vpf_cutting.proofs.DartLemmas.{head_onward, head_there, node_here, node_there, present_row}
use Rattle.vpf_cutting.proofs.cut.Cut.node_cell.Goals as goal

pub head-node-requires : goal.head-node-requires
head-node-requires c = present_row c.args.self.now.source (plan_by c.args.self.now.plan) c.args.tile c.args.dart c.requires.present

pub local_node-here-requires : goal.local_node-here-requires
local_node-here-requires c =
    head_there c.args.self.now.source (plan_by c.args.self.now.plan) c.args.tile (dart_code c.args.dart) c.head-node.result c.requires.present c.head-node.ensures

pub returns-then-onward-tile-clause-value : goal.returns-then-onward-tile-clause-value
returns-then-onward-tile-clause-value c =
    c.plain.ensures.value
    ∙ node_here c.args.self.now.source (plan_by c.args.self.now.plan) c.args.tile (dart_code c.args.dart) c.head-node.result c.local_node-here.result c.args.onward c.requires.onward
    c.if-onward-tile.true c.head-node.ensures c.local_node-here.ensures.number

pub local_node-there-requires : goal.local_node-there-requires
local_node-there-requires c =
    head_onward c.args.self.now c.plan_holds.ensures c.args.dart c.head-node.result c.args.onward
    (present_row c.args.self.now.source (plan_by c.args.self.now.plan) c.args.tile c.args.dart c.requires.present) c.requires.onward c.head-node.ensures

pub returns-clause-value : goal.returns-clause-value
returns-clause-value c =
    c.cross.ensures.value
    ∙ node_there c.args.self.now.source (plan_by c.args.self.now.plan) c.args.tile (dart_code c.args.dart) c.head-node.result c.local_node-here.result c.local_node-there.result
    c.args.onward c.requires.onward c.if-onward-tile.false c.head-node.ensures c.local_node-here.ensures.number c.local_node-there.ensures.number
