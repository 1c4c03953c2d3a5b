use Rattle.std.proofs.Common.{◌≡◌, ◌<◌, ◌^◌, map, take}
use Rattle.std.specs.Prelude.{All, flat_map}
use Rattle.vpf_cutting.specs.Inner.Cuts.{plan_by}
use Rattle.vpf_darts.specs.declared.darts.TileDart.{TileDart}
use Rattle.vpf_darts.specs.Darts.{tile_dart_code}
use Rattle.vpf_tiling.specs.Presence.{present_edges}
use Rattle.vpf_cut_rings.proofs.DartLemmas.{both_darts}
use Rattle.vpf_cut_rings.proofs.within.darts_in.Given as goal

abbrev pub invariant-loop-edge : goal.invariant-loop-edge
invariant-loop-edge l = record {
  numbers : map tile_dart_code l.darts.items ≡ flat_map both_darts (take l.edge-index (present_edges l.cut.source (plan_by l.cut.plan) l.tile));
  small : All (λ (d : TileDart). d.edge < 2 ^ 32) l.darts.items;
}
