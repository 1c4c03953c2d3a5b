-- A coverage as one map, apart from how its tiles number things: what gluing reads (MIL-STD-2407, 5.2.3, tiled coverages and cross-tile
-- topology; a combinatorial map with labels).
use Rattle.std.specs.Prelude.{ℕ, Bool, false, if◌then◌else◌, ◌==◌, List, [], ◌∷◌, Option, None, Some, map, length, filter, flat_map, is_some}
use Rattle.std.specs.List.{list_any}
use Rattle.std.specs.Option.{option_map}
use Rattle.vpf_value.specs.Values.{Value}
use Rattle.vpf_darts.specs.Darts.{code, tile_in}
use Rattle.vpf_darts.specs.Maps.{DartMap}
use Rattle.vpf_prims.specs.Lists.{kth}
use Rattle.vpf_prims.specs.References.{id_of}
use Rattle.vpf_prims.specs.Primitives.{EntityPrimitive, FacePrimitive, Library, Primitives, absent_entity, absent_face, tile_entities, tile_faces, tile_rings}
use Rattle.vpf_prims.specs.Primitives.{untiled}
use Rattle.vpf_wing.specs.Links.{Beyond, DartLinks, links_of, tail_node, tile_darts}
use Rattle.vpf_follow.specs.Following.{face_name, is_home, library_map}
use Rattle.vpf_trace.specs.CarriedLines.{first_tile, node_carried, universe_carried}
use Rattle.vpf_tiling.specs.Ranks.{numbered_from, up_to}
use Rattle.vpf_tiling.specs.Presence.{containing_face, coverage_map, dart_name, face_of, held_entities, held_faces, local_face, present_edges, tail_of}
use Rattle.vpf_tiling.specs.Presence.{untiled_links}
use Rattle.vpf_tiling_laws.specs.Tiled.Names.{dart_behind, is_name, named_map}

-- a face other than the universe: its tile and its number there, its carried cells, and its rings in their order, each by a
-- dart of its start edge
pub record WholeFace : Type 0 where
  pub at : Beyond
  pub carried : List Value
  pub rings : List ℕ

-- an entity node: its face, None for the universe, and its carried cells
pub record WholeEntity : Type 0 where
  pub face : Option Beyond
  pub carried : List Value

-- a map of tile darts; its darts in their order; for each dart the mark and the carried cells of its edge, its face, None for
-- the universe, and the carried cells of the node where it begins; the carried cells of the universe; the faces and the entity
-- nodes, by tile and number
pub record Whole : Type 0 where
  pub darts : DartMap
  pub order : List ℕ
  pub mark : ℕ → Option ℕ
  pub carried : ℕ → List Value
  pub face : ℕ → Option Beyond
  pub node : ℕ → List Value
  pub universe : List Value
  pub faces : List WholeFace
  pub entities : Option (List WholeEntity)

-- the dart of an edge of a tile that has this face of the tile
abbrev pub ring_start_dart : DartLinks → (tile edge face : ℕ) → ℕ
ring_start_dart C t e f = if (C.face (code t e 0)).id == f then code t e 0 else code t e 1

-- the rings of a face of a tile
abbrev pub whole_rings : Library → ℕ → ℕ → List ℕ
whole_rings L t f = map (λ r. ring_start_dart (links_of L) t (id_of r.start_edge) f) (filter (λ r. id_of r.face == f) (tile_rings L t))

-- a face of a tile by its row
abbrev pub whole_face : Library → ℕ → ℕ → FacePrimitive → WholeFace
whole_face L t f row = record { at = record { tile = t; id = f }; carried = row.carried; rings = whole_rings L t f }

-- the rows after the first
abbrev pub rest_of : {X : Type 0} → List X → List X
rest_of [] = []
rest_of (x ∷ xs) = xs

-- the faces of a tile but the universe, which is its face 1
abbrev pub whole_faces : Library → ℕ → List WholeFace
whole_faces L t = numbered_from 2 (whole_face L t) (rest_of (tile_faces L t))

-- a face by its number in a tile
abbrev pub face_here : ℕ → ℕ → Option Beyond
face_here t f = if f == 1 then None else Some (record { tile = t; id = f })

-- the entity nodes of a tile
abbrev pub whole_entities : Library → ℕ → List WholeEntity
whole_entities L t = map (λ row. record { face = face_here t (id_of row.containing_face); carried = row.carried }) (tile_entities L t)

-- the tiles of a library, rising
abbrev pub tiles_in : Library → List ℕ
tiles_in L = 0 ∷ up_to L.last

-- a tile has a table of entity nodes
abbrev pub has_entities : Option Primitives → Bool
has_entities None = false
has_entities (Some tile) = is_some tile.entities

-- what is read of a library for gluing
abbrev pub whole_of : Library → Whole
whole_of L = let C = links_of L in record {
  darts = library_map C;
  order = filter (is_home C) C.darts;
  mark = λ d. if is_home C d then C.mark d else None;
  carried = λ d. if is_home C d then C.carried d else [];
  face = λ d. if is_home C d then face_name C d else None;
  node = λ d. if is_home C d then node_carried L (tile_in d) (tail_node C d) else [];
  universe = universe_carried L (first_tile L);
  faces = flat_map (whole_faces L) (tiles_in L);
  entities = if list_any (λ t. has_entities (L.tile t)) (tiles_in L) then Some (flat_map (whole_entities L) (tiles_in L)) else None;
}

-- a face of the coverage by its tile and its number there
abbrev pub face_place : Primitives → (ℕ → ℕ) → ℕ → Option Beyond
face_place c plan f = if f == 1 then None else Some (record { tile = plan f; id = local_face c plan (plan f) f })

-- a face of the coverage by its name
abbrev pub named_face : Primitives → (ℕ → ℕ) → ℕ → WholeFace
named_face c plan f = record {
  at = record { tile = plan f; id = local_face c plan (plan f) f };
  carried = (kth c.faces f absent_face).carried;
  rings = map (λ d. dart_name c plan d) (whole_rings (untiled c) 0 f);
}

-- an entity node of the coverage, its face by its name
abbrev pub named_entity : Primitives → (ℕ → ℕ) → List EntityPrimitive → ℕ → WholeEntity
named_entity c plan rows n = record { face = face_place c plan (containing_face c n); carried = (kth rows n absent_entity).carried }

-- the same of a coverage whose darts, faces and entity nodes are called by their names, for a plan with so many tiles
abbrev pub whole_named : Primitives → (ℕ → ℕ) → ℕ → Whole
whole_named c plan tiles = record {
  darts = named_map c plan (coverage_map c);
  order = filter (is_name c plan) (tile_darts (λ t. length (present_edges c plan t)) tiles);
  mark = λ x. if is_name c plan x then (untiled_links c).mark (dart_behind c plan x) else None;
  carried = λ x. if is_name c plan x then (untiled_links c).carried (dart_behind c plan x) else [];
  face = λ x. if is_name c plan x then face_place c plan (face_of c (dart_behind c plan x)) else None;
  node = λ x. if is_name c plan x then node_carried (untiled c) 0 (tail_of c (dart_behind c plan x)) else [];
  universe = (kth c.faces 1 absent_face).carried;
  faces = flat_map (λ t. map (named_face c plan) (held_faces c plan t)) (up_to tiles);
  entities = option_map (λ rows. flat_map (λ t. map (named_entity c plan rows) (held_entities c plan t)) (up_to tiles)) c.entities;
}
