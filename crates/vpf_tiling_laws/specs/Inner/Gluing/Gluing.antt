-- Gluing, field by field: what is read of the tiled library for gluing is the coverage with its darts, faces and entity nodes
-- called by their names.
use Rattle.std.specs.Prelude.{◌≡◌, ℕ, length}
use Rattle.vpf_prims.specs.Primitives.{Primitives, edge_count}
use Rattle.vpf_tiling.specs.Presence.{present_edges}
use Rattle.vpf_tiling.specs.Tiles.{tiled_library}
use Rattle.vpf_tiling_laws.specs.Gluing.Whole.{whole_named, whole_of}
use Rattle.vpf_tiling_laws.specs.Gluing.Glued.{glued, renumbered, tiles_of_faces}
use Rattle.vpf_tiling.specs.Plans.{IsTileable}

-- each tile, a tile without tables too, has as many edges as are present there
abbrev pub CountsArePresent : Type 0
CountsArePresent =
    (c : Primitives) (plan : ℕ → ℕ) (tiles : ℕ) → IsTileable c plan tiles → (t : ℕ)
    → edge_count (tiled_library c plan tiles) t ≡ length (present_edges c plan t)

-- the home darts of the library, in their order, are the names in their order
abbrev pub OrderIsNamed : Type 0
OrderIsNamed =
    (c : Primitives) (plan : ℕ → ℕ) (tiles : ℕ) → IsTileable c plan tiles → (whole_of (tiled_library c plan tiles)).order ≡ (whole_named c plan tiles).order

-- the mark of each dart's edge
abbrev pub MarksAreNamed : Type 0
MarksAreNamed =
    (c : Primitives) (plan : ℕ → ℕ) (tiles : ℕ) → IsTileable c plan tiles → (whole_of (tiled_library c plan tiles)).mark ≡ (whole_named c plan tiles).mark

-- the carried cells of each dart's edge
abbrev pub CarriedAreNamed : Type 0
CarriedAreNamed =
    (c : Primitives) (plan : ℕ → ℕ) (tiles : ℕ) → IsTileable c plan tiles → (whole_of (tiled_library c plan tiles)).carried ≡ (whole_named c plan tiles).carried

-- the face of each dart
abbrev pub FacesOfDartsAreNamed : Type 0
FacesOfDartsAreNamed =
    (c : Primitives) (plan : ℕ → ℕ) (tiles : ℕ) → IsTileable c plan tiles → (whole_of (tiled_library c plan tiles)).face ≡ (whole_named c plan tiles).face

-- the carried cells of the node where each dart begins
abbrev pub NodesAreNamed : Type 0
NodesAreNamed =
    (c : Primitives) (plan : ℕ → ℕ) (tiles : ℕ) → IsTileable c plan tiles → (whole_of (tiled_library c plan tiles)).node ≡ (whole_named c plan tiles).node

-- the carried cells of the universe
abbrev pub UniverseIsNamed : Type 0
UniverseIsNamed =
    (c : Primitives) (plan : ℕ → ℕ) (tiles : ℕ) → IsTileable c plan tiles
    → (whole_of (tiled_library c plan tiles)).universe ≡ (whole_named c plan tiles).universe

-- the faces, by tile and number, each with its carried cells and its rings
abbrev pub FacesAreNamed : Type 0
FacesAreNamed =
    (c : Primitives) (plan : ℕ → ℕ) (tiles : ℕ) → IsTileable c plan tiles → (whole_of (tiled_library c plan tiles)).faces ≡ (whole_named c plan tiles).faces

-- the entity nodes, by tile and number
abbrev pub EntitiesAreNamed : Type 0
EntitiesAreNamed =
    (c : Primitives) (plan : ℕ → ℕ) (tiles : ℕ) → IsTileable c plan tiles
    → (whole_of (tiled_library c plan tiles)).entities ≡ (whole_named c plan tiles).entities

-- all of it
abbrev pub WholeIsNamed : Type 0
WholeIsNamed = (c : Primitives) (plan : ℕ → ℕ) (tiles : ℕ) → IsTileable c plan tiles → whole_of (tiled_library c plan tiles) ≡ whole_named c plan tiles

-- so the tiled library is glued to the coverage that was cut, renumbered, and the plan of the library names the same tiles
abbrev pub GluingGivesRenumbered : Type 0
GluingGivesRenumbered = (c : Primitives) (plan : ℕ → ℕ) (tiles : ℕ) → IsTileable c plan tiles
    → (glued (tiled_library c plan tiles) ≡ renumbered c plan tiles)
    × (tiles_of_faces (whole_of (tiled_library c plan tiles)) ≡ tiles_of_faces (whole_named c plan tiles))
