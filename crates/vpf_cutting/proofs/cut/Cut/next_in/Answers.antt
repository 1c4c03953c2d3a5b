use Rattle.std.proofs.Common.{◌<◌, ◌^◌, ap, ◌∙◌, sym, arith}
use Rattle.vpf_darts.specs.Darts.{dart_code}
use Rattle.vpf_tiling.specs.Presence.{untiled_links}
use Rattle.vpf_tiling.specs.Inner.PresenceLaws.{present_has}
use Rattle.vpf_cutting.specs.Inner.Cuts.{plan_by}
use Rattle.vpf_cutting.specs.Inner.WalkLaws.{absent_edges, present_kept}
use Rattle.vpf_cutting.proofs.DartLemmas.{next_there, same_code}
use Rattle.vpf_cutting.proofs.cut.Cut.next_in.Goals as goal

pub next_kept-next-requires-clause-map : goal.next_kept-next-requires-clause-map
next_kept-next-requires-clause-map c =
    c.well_formed_has_map.ensures c.args.self.now.source c.plan_holds.ensures.tileable.few c.plan_holds.ensures.tileable.well_formed

pub next_kept-next-requires-clause-edges : goal.next_kept-next-requires-clause-edges
next_kept-next-requires-clause-edges c = absent_edges c.args.self.now.source (plan_by c.args.self.now.plan) c.args.tile c.plan_holds.ensures.tileable.few

pub next_kept-next-requires-clause-has : goal.next_kept-next-requires-clause-has
next_kept-next-requires-clause-has c = present_has c.args.self.now.source (plan_by c.args.self.now.plan) c.args.tile (dart_code c.args.dart) c.requires

pub next_kept-next-requires-clause-kept : goal.next_kept-next-requires-clause-kept
next_kept-next-requires-clause-kept c = present_kept c.args.self.now.source (plan_by c.args.self.now.plan) c.args.tile (dart_code c.args.dart) c.requires

pub returns-clause-next : goal.returns-clause-next
returns-clause-next c =
    let small : c.next_kept-next.result.edge < 2 ^ 32 = omega arith in
    sym (same_code c.args.self.now.source c.next_kept-next.result small c.next_kept-next.ensures.has) ∙ c.next_kept-next.ensures.next

pub returns-clause-there : goal.returns-clause-there
returns-clause-there c =
    let small : c.next_kept-next.result.edge < 2 ^ 32 = omega arith in
    let code = same_code c.args.self.now.source c.next_kept-next.result small c.next_kept-next.ensures.has in
    next_there c.first_kept_dart.ensures c.args.self.now c.plan_holds.ensures (c.well_formed_has_map.ensures c.args.self.now.source c.plan_holds.ensures.tileable.few c.plan_holds.ensures.tileable.well_formed) c.args.tile (dart_code c.args.dart) _ c.requires
    (ap (λ x. (untiled_links c.args.self.now.source).has x) (sym code) ∙ c.next_kept-next.ensures.has) (returns-clause-next c)
