use Rattle.std.proofs.Common.{◌≡◌, ◌∙◌, subst, true}
use Rattle.vpf_darts.specs.Darts.{dart_code}
use Rattle.vpf_tiling.specs.Presence.{is_present}
use Rattle.vpf_cutting.specs.Inner.Cuts.{plan_by}
use Rattle.vpf_cutting.proofs.DartLemmas.{edge_there, present_row, wing_here, wing_there}
use Rattle.vpf_cutting.proofs.cut.Cut.wing_cell.Goals as goal

pub local_edge-requires : goal.local_edge-requires
local_edge-requires c =
    edge_there c.args.self.now c.plan_holds.ensures c.args.tile c.args.onward.next
    (subst (λ t. is_present c.args.self.now.source (plan_by c.args.self.now.plan) t (dart_code c.args.onward.next) ≡ true) c.if-onward-tile.true c.requires.onward.there)

pub returns-then-onward-tile-clause-value : goal.returns-then-onward-tile-clause-value
returns-then-onward-tile-clause-value c =
    c.plain.ensures.value
    ∙ wing_here c.first_kept_dart.ensures c.args.self.now c.plan_holds.ensures
    (c.well_formed_has_map.ensures c.args.self.now.source c.plan_holds.ensures.tileable.few c.plan_holds.ensures.tileable.well_formed)
    c.args.tile (dart_code c.args.dart) c.local_edge.result c.args.onward c.requires.present c.requires.onward c.if-onward-tile.true c.local_edge.ensures.number

pub local_edge-here-requires : goal.local_edge-here-requires
local_edge-here-requires c = edge_there c.args.self.now c.plan_holds.ensures c.args.tile c.next_in-first.result c.next_in-first.ensures.there

pub local_edge-there-requires : goal.local_edge-there-requires
local_edge-there-requires c = edge_there c.args.self.now c.plan_holds.ensures c.args.onward.home c.args.onward.next c.requires.onward.there

pub returns-clause-value : goal.returns-clause-value
returns-clause-value c =
    c.cross.ensures.value
    ∙ wing_there c.args.self.now c.plan_holds.ensures c.args.tile (dart_code c.args.dart) c.local_edge-here.result c.local_edge-there.result c.next_in-first.result c.args.onward
    c.requires.onward c.if-onward-tile.false c.next_in-first.ensures.next
    (present_row c.args.self.now.source (plan_by c.args.self.now.plan) c.args.tile c.next_in-first.result c.next_in-first.ensures.there)
    c.local_edge-here.ensures.number c.local_edge-there.ensures.number
