use Rattle.std.proofs.Common.{◌<◌, ◌^◌, ◌∙◌, sym, ap, subst}
use Rattle.vpf_prims.specs.Coverages.{CoverageTables, tile_at}
use Rattle.vpf_tiler.proofs.SourceLemmas.{untiled_checked, untiled_columns, untiled_well_formed}
use Rattle.vpf_tiler.proofs.sources.source_of.Goals as goal

pub returns-clause-columns : goal.returns-clause-columns
returns-clause-columns c =
    untiled_columns (record { numbers = c.numbers_decide.ensures.coverage; loops = c.loops_decide.ensures; cycles = c.cycles_decide.ensures })
    c.args.checked.now c.in-Some.tile.now
    (untiled_checked c.coverage-coverage.result.now c.args.checked.now c.coverage-coverage.ensures c.requires c.tiles_make_library.ensures c.numbers_hold.ensures c.topology_holds.ensures)
    (sym (c.in-Some.ensures ∙ ap (λ (v : CoverageTables). tile_at v 0) c.coverage-coverage.ensures))

pub returns-clause-well_formed : goal.returns-clause-well_formed
returns-clause-well_formed c =
    untiled_well_formed (record { numbers = c.numbers_decide.ensures.coverage; loops = c.loops_decide.ensures; cycles = c.cycles_decide.ensures })
    c.args.checked.now c.in-Some.tile.now
    (untiled_checked c.coverage-coverage.result.now c.args.checked.now c.coverage-coverage.ensures c.requires c.tiles_make_library.ensures c.numbers_hold.ensures c.topology_holds.ensures)
    (sym (c.in-Some.ensures ∙ ap (λ (v : CoverageTables). tile_at v 0) c.coverage-coverage.ensures))
    (subst (λ n. n < 2 ^ 24) c.edges-edges.ensures.value c.edges-edges.ensures.few)
