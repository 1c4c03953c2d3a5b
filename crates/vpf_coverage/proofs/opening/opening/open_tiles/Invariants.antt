use Rattle.std.proofs.Common.{◌≡◌, ◌+◌, ◌*◌, ◌<◌, ◌≤◌, ◌^◌, List, Option, length}
use Rattle.std.specs.Prelude.{All}
use Rattle.vpf_prims.specs.Tables.{TileTables}
use Rattle.vpf_coverage.specs.Inner.Opening.Opened.{placed_views}
use Rattle.vpf_coverage.specs.Inner.Opening.OpensTiles.{OpensTiles}
use Rattle.vpf_coverage.proofs.opening.LoopLemmas.{Ahead}
use Rattle.vpf_coverage.proofs.opening.opening.open_tiles.Given as goal

abbrev pub invariant-loop-t : goal.invariant-loop-t
invariant-loop-t l = record {
  count : l.at ≤ 10 * l.t + 2;
  alike : length l.firsts.items ≡ length l.tiles.items;
  few : All (λ first. first < 2 ^ 31) l.firsts.items;
  opened : (tiles : List (Option TileTables)) → OpensTiles l.folder l.initial.at l.paths tiles l.initial.files
      → Ahead l.folder l.at l.paths l.t l.files (placed_views l.firsts.items l.tiles.items) tiles;
}
