use Rattle.std.proofs.Common.{sym, subst}
use Rattle.vpf_cutting.specs.Inner.Cuts.{plan_by}
use Rattle.vpf_wing.specs.Inner.Kept.Kept.{AreKept}
use Rattle.vpf_tiling.specs.Presence.{absent_darts, coverage_map}
use Rattle.vpf_cut_rings.proofs.WithinLemmas.{are_kept}
use Rattle.vpf_cut_rings.proofs.outer.cycles_in.Goals as goal

pub list_kept-requires : goal.list_kept-requires
list_kept-requires c =
    subst (AreKept (coverage_map c.args.cut.now.source) (absent_darts c.args.cut.now.source (plan_by c.args.cut.now.plan) c.args.tile)) (sym c.deref.ensures.value)
    (are_kept c.well_formed_has_map.ensures c.args.cut.now.source (plan_by c.args.cut.now.plan) c.args.cut.now.tiles c.plan_holds.ensures.tileable c.args.tile
    c.in_ok-darts.darts.items c.in_ok-darts.ensures.numbers c.in_ok-darts.ensures.small)
