use Rattle.std.proofs.Common.{◌≡◌, ◌+◌, length, sym, ap, subst, ◌∙◌, arith}
use Rattle.vpf_follow.specs.Inner.Homes.{darts_to}
use Rattle.vpf_prims.specs.Coverages.{CoverageTables, last_tile}
use Rattle.vpf_prims.specs.Libraries.{library_of}
use Rattle.vpf_prims.specs.Primitives.{edge_count}
use Rattle.vpf_tiling_laws.specs.Gluing.Glued.{plus_darts}
use Rattle.vpf_tiling_laws.specs.Gluing.Whole.{whole_of}
use Rattle.vpf_renumbering.specs.Inner.GluedEdges.Counting.{plus_count}
use Rattle.vpf_renumbering.proofs.glued_edges.CountLemmas.{count_all, count_none, tile_more}
use Rattle.vpf_renumbering.proofs.glued_edges.counting.edge_count.Goals as goal

pub loop-number-init : goal.loop-number-init
loop-number-init c = record { counted = count_none (library_of c.coverage-coverage.result.now) 0; few = omega arith }

pub loop-number-preserved : goal.loop-number-preserved
loop-number-preserved c =
    let L = library_of c.coverage-coverage.result.now in
    record {
      counted = ap (λ n. n + c.home_edges-count.result) c.loop-number.invariant.counted
          ∙ ap (λ n. plus_count L (darts_to (edge_count L) c.loop-number.number 0) + n) c.home_edges-count.ensures.count
          ∙ sym (tile_more L c.loop-number.number);
      few = omega (arith, c.loop-number.invariant.few, c.home_edges-count.ensures.few);
    }

pub returns-2 : goal.returns-2
returns-2 c =
    let L = library_of c.coverage-coverage.result.now in
    let last : c.loop-number.number ≡ last_tile c.coverage-coverage.result.now = omega arith in
    subst (λ (v : CoverageTables). c.loop-number.count + c.home_edges-count.result ≡ length (plus_darts (whole_of (library_of v)))) c.coverage-coverage.ensures
    (ap (λ n. n + c.home_edges-count.result) c.loop-number.invariant.counted
    ∙ ap (λ n. plus_count L (darts_to (edge_count L) c.loop-number.number 0) + n) c.home_edges-count.ensures.count
    ∙ sym (tile_more L c.loop-number.number)
    ∙ ap (λ t. plus_count L (darts_to (edge_count L) (t + 1) 0)) last
    ∙ count_all L)
