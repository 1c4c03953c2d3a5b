use Rattle.std.proofs.Common.{◌≡◌, ℕ, suc, ◌+◌, ◌*◌, ◌^◌, ◌<◌, length, ap, ◌∙◌, arith, below_more}
use Rattle.vpf_prims.specs.Coverages.{last_tile}
use Rattle.vpf_prims.specs.Primitives.{edge_count}
use Rattle.vpf_wing.specs.Links.{tile_darts}
use Rattle.vpf_prims.specs.Libraries.{library_of}
use Rattle.vpf_follow.proofs.CoverageLemmas.{few_to_last}
use Rattle.vpf_follow.proofs.ListLemmas.{length-tiles}
use Rattle.vpf_follow.specs.Inner.ListLaws.{to_end, to_tile}
use Rattle.vpf_follow.proofs.followed.count_darts.Goals as goal

pub loop-t-preserved : goal.loop-t-preserved
loop-t-preserved c =
    let next : c.loop-t.t + 1 ≡ suc c.loop-t.t = omega arith in
    let more = length-tiles (edge_count (library_of c.args.coverage.now)) c.loop-t.t in
    let same = c.from.ensures in
    let here : edge_count (library_of c.args.coverage.now) c.loop-t.t < 2 ^ 24 = rw (← c.edge_count.ensures.value) c.edge_count.ensures.few in
    record {
      count = rw next (omega (arith, more, same, c.edge_count.ensures.value, c.loop-t.invariant.count));
      room = omega (arith, same, c.edge_count.ensures.few, c.loop-t.invariant.room);
      few = below_more (λ s. edge_count (library_of c.args.coverage.now) s < 2 ^ 24) c.loop-t.t c.loop-t.invariant.few here;
    }

pub returns-2-clause-count : goal.returns-2-clause-count
returns-2-clause-count c =
    let edges : ℕ → ℕ = edge_count (library_of c.args.coverage.now) in
    let last : c.loop-t.t ≡ last_tile c.args.coverage.now = omega (arith, c.tiles-t-end.ensures) in
    let more = length-tiles (edge_count (library_of c.args.coverage.now)) c.loop-t.t in
    let all = ap length (to_tile (edge_count (library_of c.args.coverage.now)) c.loop-t.t ∙ to_end (edge_count (library_of c.args.coverage.now)) c.loop-t.t) in
    let same = c.from.ensures in
    let sum : c.loop-t.darts + 2 * c.from.result ≡ length (tile_darts (edge_count (library_of c.args.coverage.now)) c.loop-t.t) =
    omega (arith, more, all, same, c.edge_count.ensures.value, c.loop-t.invariant.count) in
    sum ∙ ap (λ t. length (tile_darts (edge_count (library_of c.args.coverage.now)) t)) last

pub returns-2-clause-few : goal.returns-2-clause-few
returns-2-clause-few c =
    let here : edge_count (library_of c.args.coverage.now) c.loop-t.t < 2 ^ 24 = rw (← c.edge_count.ensures.value) c.edge_count.ensures.few in
    let last : c.loop-t.t ≡ last_tile c.args.coverage.now = omega (arith, c.tiles-t-end.ensures) in
    few_to_last c.args.coverage.now (λ s low. below_more
    (λ s. edge_count (library_of c.args.coverage.now) s < 2 ^ 24) c.loop-t.t c.loop-t.invariant.few here s (omega arith))
