use Rattle.std.proofs.Common.{◌<◌, ◌^◌, ◌∙◌, sym, subst}
use Rattle.vpf_tiler.proofs.CutLemmas.{cut_is, names_all, planned}
use Rattle.vpf_tiler.proofs.sources.cut_by.Goals as goal

pub planned_tiles-requires : goal.planned_tiles-requires
planned_tiles-requires c =
    names_all c.args.plan.now c.faces.result c.in_ok-named.named c.in_ok-named.ensures.tiles ∙ c.faces.ensures.value ∙ sym c.faces-2.ensures.value

pub new-requires : goal.new-requires
new-requires c =
    planned c.refusals_decide.ensures c.args.source.now c.args.tiles c.faces-2.result c.in_ok-named.named c.in_ok-planned.planned.items c.requires.well_formed
    (subst (λ n. n < 2 ^ 24) c.edges-edges.ensures.value c.edges-edges.ensures.few) c.requires.some c.requires.few (sym c.in_ok-check_tileable.ensures)
    c.faces-2.ensures.value c.in_ok-planned.ensures.tiles c.in_ok-planned.ensures.each

pub returns-clause-cut : goal.returns-clause-cut
returns-clause-cut c =
    cut_is c.args.source.now c.args.plan.now c.args.tiles c.faces.result c.in_ok-named.named c.in_ok-planned.planned.items c.in_ok-new.field-0 c.in_ok-new.ensures
    c.in_ok-named.ensures.tiles c.faces.ensures.value c.in_ok-planned.ensures.each
