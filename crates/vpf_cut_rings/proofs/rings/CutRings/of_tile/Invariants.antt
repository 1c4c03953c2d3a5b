use Rattle.std.proofs.Common.{◌≡◌, ◌++◌, map, take}
use Rattle.std.specs.Prelude.{All, flat_map}
use Rattle.vpf_cutting.specs.Inner.Cuts.{plan_by}
use Rattle.vpf_tiling.specs.Presence.{held_faces}
use Rattle.vpf_tiling.specs.Tiles.{face_rings, outer_rings}
use Rattle.vpf_cut_rings.specs.Inner.Rings.{HasSmallNumbers, ring_of}
use Rattle.vpf_cut_rings.proofs.rings.CutRings.of_tile.Given as goal

abbrev pub invariant-loop-face : goal.invariant-loop-face
invariant-loop-face l = record {
  made : map ring_of l.rings.items
      ≡ outer_rings l.self.source (plan_by l.self.plan) l.tile
      ++ flat_map (face_rings l.self.source (plan_by l.self.plan) l.tile) (take l.face-index (held_faces l.self.source (plan_by l.self.plan) l.tile));
  small : All HasSmallNumbers l.rings.items;
}
