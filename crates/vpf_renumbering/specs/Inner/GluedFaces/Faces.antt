-- The faces of a coverage in their order, by tile and number, as they are counted, and how many they and their rings are
-- (MIL-STD-2407, 5.2.3, tiled coverages).
use Rattle.std.specs.Prelude.{◌≡◌, ◌≢◌, ℕ, ◌+◌, ◌*◌, ◌≤◌, true, List, Option, length, map, flat_map}
use Rattle.std.specs.List.{range_with_len}
use Rattle.vpf_base.specs.Limits.{most_rows}
use Rattle.vpf_darts.specs.Darts.{sign_in}
use Rattle.vpf_darts.specs.Maps.{IsMap}
use Rattle.vpf_prims.specs.Coverages.{CoverageTables, last_tile}
use Rattle.vpf_prims.specs.Libraries.{library_of}
use Rattle.vpf_prims.specs.Lists.{kth}
use Rattle.vpf_prims.specs.Numbering.{IsNumbered}
use Rattle.vpf_prims.specs.Primitives.{Library, absent_entity, has_tables, tile_entities}
use Rattle.vpf_prims.specs.References.{id_of}
use Rattle.vpf_wing.specs.Links.{Beyond, links_of}
use Rattle.vpf_wing.specs.WellFormed.{HasCycles}
use Rattle.vpf_follow.specs.Following.{is_home, library_map}
use Rattle.vpf_tiling_laws.specs.Gluing.Whole.{face_here, whole_faces, whole_of}
use Rattle.vpf_tiling_laws.specs.Gluing.Glued.{plus_darts}

-- what gluing stands on: the tiles are numbered and their cycles hold, the library is a map, and each edge of it has a + and a - dart
pub record IsJoined (L : Library) : Type 0 where
  pub numbered : (t : ℕ) → has_tables L t ≡ true → IsNumbered L t
  pub cycles : (t : ℕ) → has_tables L t ≡ true → HasCycles L t
  pub is_map : IsMap (library_map (links_of L))
  pub signs : (d : ℕ) → is_home (links_of L) d ≡ true → sign_in ((library_map (links_of L)).flip d) ≢ sign_in d

-- how many faces other than the universe the tiles before this one have
unfoldable pub faces_before : Library → ℕ → ℕ
faces_before L t = length (flat_map (whole_faces L) (range_with_len 0 t))

-- each face but the universe has a ring, each ring of one starts with a home dart of its own, and each edge has two
pub record HasFewFaces (L : Library) : Type 0 where
  pub faces : length (whole_of L).faces ≤ length (flat_map (λ f. f.rings) (whole_of L).faces)
  pub rings : length (flat_map (λ f. f.rings) (whole_of L).faces) ≤ 2 * length (plus_darts (whole_of L))

-- for each tile, and for one after the last, the faces before it are counted; so few edges have few faces
pub record AreFaceCounts (c : CoverageTables) (counts : List ℕ) : Type 0 where
  pub edges : length (plus_darts (whole_of (library_of c))) ≤ most_rows
  pub faces : length (whole_of (library_of c)).faces ≤ 2 * most_rows
  pub counted : counts ≡ map (faces_before (library_of c)) (range_with_len 0 (last_tile c + 2))

-- a face that there is not
abbrev pub nowhere : Beyond
nowhere = record { tile = 0; id = 0 }

-- the face of entity node n of a tile, None for the universe
abbrev pub entity_face : Library → ℕ → ℕ → Option Beyond
entity_face L t n = face_here t (id_of (kth (tile_entities L t) n absent_entity).containing_face)
