use Rattle.std.proofs.Common.{◌≡◌, ◌≤◌, ◌∙◌, sym, ap, arith, length}
use Rattle.std.proofs.lemmas.List.{take_all}
use Rattle.std.specs.Prelude.{flat_map}
use Rattle.vpf_cutting.specs.Inner.Cuts.{plan_by}
use Rattle.vpf_tiling.specs.Presence.{present_edges}
use Rattle.vpf_cut_rings.proofs.DartLemmas.{both_darts, darts_by_edges}
use Rattle.vpf_cut_rings.proofs.within.darts_in.Goals as goal

pub returns-clause-numbers : goal.returns-clause-numbers
returns-clause-numbers c =
    let many : length c.edges_in-edge-items.result.now ≡ length (present_edges c.args.cut.now.source (plan_by c.args.cut.now.plan) c.args.tile) =
    ap length c.edges_in-edge-items.ensures.edges in
    let all : length (present_edges c.args.cut.now.source (plan_by c.args.cut.now.plan) c.args.tile) ≤ c.loop-edge.edge-index = omega arith in
    c.loop-edge.invariant.numbers
    ∙ ap (flat_map both_darts) (take_all c.loop-edge.edge-index (present_edges c.args.cut.now.source (plan_by c.args.cut.now.plan) c.args.tile) all)
    ∙ sym (darts_by_edges c.args.cut.now.source (plan_by c.args.cut.now.plan) c.args.tile)
