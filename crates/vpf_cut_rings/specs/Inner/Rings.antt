-- The rings of a tile of a coverage that is cut, as they are made.
use Rattle.std.specs.Prelude.{◌≡◌, ℕ, ◌<◌, ◌^◌, Bool, ◌==◌, if◌then◌else◌, List, length, map}
use Rattle.vpf_cutting.specs.Inner.Copies.Placing.{is_at}
use Rattle.vpf_cutting.specs.Inner.Copies.Presence.{Presence, has}
use Rattle.vpf_darts.specs.Darts.{edge_in}
use Rattle.vpf_prims.specs.Lists.{first_item}
use Rattle.vpf_prims.specs.Primitives.{Primitives}
use Rattle.vpf_prims.specs.References.{id_of}
use Rattle.vpf_tiling.specs.Presence.{local_edge}
use Rattle.vpf_tiling.specs.Ranks.{up_to}
use Rattle.vpf_tiling.specs.Tiles.{Ring}
use Rattle.vpf_cut_rings.specs.declared.rings.CutRing.{CutRing}

-- a ring that is made, before it has its number
abbrev pub ring_of : CutRing → Ring
ring_of r = record { face = r.face; edge = r.edge }

-- the numbers of a ring fit cells, which hold those below 2^31
pub record HasSmallNumbers (r : CutRing) : Type 0 where
  pub face : r.face < 2 ^ 31
  pub edge : r.edge < 2 ^ 31

-- the outer ring that starts with the edge of a dart
abbrev pub outer_ring : Primitives → (ℕ → ℕ) → ℕ → ℕ → Ring
outer_ring c plan t d = record { face = 1; edge = local_edge c plan t (edge_in d) }

-- the faces of the rings of a coverage, ring by ring
abbrev pub ring_faces : Primitives → List ℕ
ring_faces c = map (λ r. id_of r.face) c.rings

-- which rings are of which faces is kept, as items that have faces for tiles
pub record KeepsRings (c : Primitives) (rings : Presence) : Type 0 where
  pub count : rings.items ≡ length c.rings
  pub tests : has rings ≡ is_at (ring_faces c)

-- the number of the first item, where those before have this one, 0 for none, and one more is or isn't such an item
abbrev pub first_with : ℕ → Bool → ℕ → ℕ
first_with before more number = if before == 0 then (if more then number else 0) else before

-- for each of so many faces, from 1 on, the number of its first ring, 0 where it has none
abbrev pub first_rings_of : ℕ → List Ring → List ℕ
first_rings_of faces rings = map (λ k. first_item (λ r. r.face == k) rings) (up_to faces)
