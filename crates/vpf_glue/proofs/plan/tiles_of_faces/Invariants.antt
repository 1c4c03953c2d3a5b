use Rattle.std.proofs.Common.{◌≡◌, ℕ, ◌^◌, ◌<◌, map, take}
use Rattle.std.specs.Prelude.{All}
use Rattle.vpf_renumbering.specs.TilingLawsWhole.{WholeFace}
use Rattle.vpf_glue.specs.GluedTables.Grids.{whole_in}
use Rattle.vpf_glue.proofs.plan.tiles_of_faces.Given as goal

abbrev pub invariant-loop-place : goal.invariant-loop-place
invariant-loop-place l = record {
  tiles : l.tiles.items ≡ map (λ (f : WholeFace). f.at.tile) (take l.place (whole_in l.faces).faces);
  small : All (λ (tile : ℕ). tile < 2 ^ 31) l.tiles.items;
}
