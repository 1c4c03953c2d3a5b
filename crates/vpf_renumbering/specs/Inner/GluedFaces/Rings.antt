-- The rings of a glued coverage, as they are made (MIL-STD-2407, 5.2.2, rings).
use Rattle.std.specs.Prelude.{◌≡◌, ℕ, ◌<◌, ◌^◌, true, Bool, not, is_some, List, filter, flat_map, map}
use Rattle.vpf_darts.specs.Cycles.{first_of}
use Rattle.vpf_darts.specs.Darts.{tile_dart_code}
use Rattle.vpf_prims.specs.Primitives.{Library}
use Rattle.vpf_wing.specs.Links.{links_of}
use Rattle.vpf_follow.specs.Following.{is_home}
use Rattle.vpf_tiling.specs.Tiles.{Ring}
use Rattle.vpf_tiling_laws.specs.Gluing.Glued.{edge_number, face_number, rings_of_face}
use Rattle.vpf_tiling_laws.specs.Gluing.Whole.{Whole, face_here, whole_faces, whole_of, whole_rings}
use Rattle.vpf_renumbering.specs.declared.glued_faces.rings.GluedRing.{GluedRing}

-- a ring as a row says it: its face, and the number of the edge of the dart that it starts with
abbrev pub ring_said : Whole → GluedRing → Ring
ring_said w r = record { face = r.face; edge = edge_number w (tile_dart_code r.start) }

-- a ring starts with a home dart, and the number of its face fits a cell, which holds those below 2^31
pub record HasHomeStart (L : Library) (r : GluedRing) : Type 0 where
  pub home : is_home (links_of L) (tile_dart_code r.start) ≡ true
  pub face : r.face < 2 ^ 31

-- rings as rows say them
unfoldable pub rings_glued : Library → List GluedRing → List Ring
rings_glued L rings = map (ring_said (whole_of L)) rings

-- the rings of a face of a tile
unfoldable pub rings_said : Library → (t f : ℕ) → List Ring
rings_said L t f = map (λ d. record { face = face_number (whole_of L) (face_here t f); edge = edge_number (whole_of L) d }) (whole_rings L t f)

-- the rings of all faces of a tile but the universe
unfoldable pub rings_of_tile : Library → ℕ → List Ring
rings_of_tile L t = flat_map (rings_of_face (whole_of L)) (whole_faces L t)

-- a dart has the universe for its face
abbrev pub is_universe : Library → ℕ → Bool
is_universe L d = not (is_some ((whole_of L).face d))

-- the ring of the universe that starts with a dart
abbrev pub universe_ring : Library → ℕ → Ring
universe_ring L d = record { face = 1; edge = edge_number (whole_of L) d }

-- of the cycles of a listing, the rings of those that begin with a dart of the universe
unfoldable pub rings_of_cycles : Library → List (List ℕ) → List Ring
rings_of_cycles L lists = map (universe_ring L) (filter (is_universe L) (map first_of lists))
