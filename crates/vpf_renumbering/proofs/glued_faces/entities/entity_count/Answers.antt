use Rattle.std.proofs.Common.{◌≡◌, ◌+◌, suc, ap, ◌∙◌, subst, arith, length}
use Rattle.std.specs.List.{range_with_len}
use Rattle.std.specs.Prelude.{flat_map}
use Rattle.vpf_prims.specs.Coverages.{CoverageTables, last_tile}
use Rattle.vpf_prims.specs.Libraries.{library_of}
use Rattle.vpf_tiling_laws.specs.Gluing.Whole.{tiles_in, whole_entities}
use Rattle.vpf_renumbering.proofs.glued_faces.CountLemmas.{entities_more}
use Rattle.vpf_renumbering.proofs.glued_faces.entities.entity_count.Goals as goal

pub loop-tile-preserved : goal.loop-tile-preserved
loop-tile-preserved c =
    let more = entities_more (library_of c.coverage-coverage.result.now) c.loop-tile.tile in
    record {
      count = omega (arith, more, c.from-count.ensures, c.own_entities.ensures.value, c.loop-tile.invariant.count);
      room = omega (arith, c.from-count.ensures, c.own_entities.ensures.few, c.loop-tile.invariant.room);
    }

pub returns-2 : goal.returns-2
returns-2 c =
    let more = entities_more (library_of c.coverage-coverage.result.now) c.loop-tile.tile in
    let last : c.loop-tile.tile + 1 ≡ suc (last_tile c.coverage-coverage.result.now) = omega arith in
    let all : c.loop-tile.count + c.from-count.result ≡ length (flat_map (whole_entities (library_of c.coverage-coverage.result.now)) (range_with_len 0 (c.loop-tile.tile + 1))) =
    omega (arith, more, c.from-count.ensures, c.own_entities.ensures.value, c.loop-tile.invariant.count) in
    subst (λ (v : CoverageTables). c.loop-tile.count + c.from-count.result ≡ length (flat_map (whole_entities (library_of v)) (tiles_in (library_of v)))) c.coverage-coverage.ensures
    (all ∙ ap (λ n. length (flat_map (whole_entities (library_of c.coverage-coverage.result.now)) (range_with_len 0 n))) last)
