-- A coverage that is cut into tiles by a plan, as it is kept.
use Rattle.std.specs.Prelude.{◌≡◌, ℕ, ◌<◌, ◌^◌, Bool, List, Some, length}
use Rattle.vpf_cutting.specs.Inner.Copies.Presence.{Presence, has}
use Rattle.vpf_prims.specs.Lists.{kth}
use Rattle.vpf_prims.specs.Primitives.{Primitives, entities_in}
use Rattle.vpf_prims.specs.Reading.{primitives_of}
use Rattle.vpf_prims.specs.Tables.{TileTables}
use Rattle.vpf_tiling.specs.Plans.{IsTileable}
use Rattle.vpf_tiling.specs.Presence.{has_edge, has_node, holds_entity, holds_face}

-- an untiled coverage, the tile of each of its faces, from face 1 on, and how many tiles there are
pub record Cutting : Type 0 where
  pub source : Primitives
  pub plan : List ℕ
  pub tiles : ℕ

-- the plan that a list of the tiles of the faces is, 0 for a number without a face
abbrev pub plan_by : List ℕ → ℕ → ℕ
plan_by tiles f = kth tiles f 0

-- the coverage of these tables with a plan and so many tiles
abbrev pub cutting_of : TileTables → List ℕ → ℕ → Cutting
cutting_of t plan tiles = record { source = primitives_of t.tables; plan = plan; tiles = tiles }

-- a list of the tiles of the faces is a plan by which the coverage may be tiled; it has no tile for face 1, the universe
pub record IsPlanned (k : Cutting) : Type 0 where
  pub tileable : IsTileable k.source (plan_by k.plan) k.tiles
  pub faces : length k.plan ≡ length k.source.faces
  pub universe : plan_by k.plan 1 ≡ 0
  pub few : k.tiles < 2 ^ 31

-- so many items are in so many tiles where a test of a tile and an item says so
pub record ArePresent (count last : ℕ) (test : ℕ → ℕ → Bool) (p : Presence) : Type 0 where
  pub items : p.items ≡ count
  pub tiles : p.tiles ≡ last
  pub tests : has p ≡ test
  pub few : count < 2 ^ 24

-- the edges are in the tiles where they are present
abbrev pub AreCutEdges : Cutting → Presence → Type 0
AreCutEdges k = ArePresent (length k.source.edges) k.tiles (has_edge k.source (plan_by k.plan))

-- the nodes
abbrev pub AreCutNodes : Cutting → Presence → Type 0
AreCutNodes k = ArePresent (length k.source.nodes) k.tiles (has_node k.source (plan_by k.plan))

-- the faces but the universe, each in the tile of the plan
abbrev pub AreCutFaces : Cutting → Presence → Type 0
AreCutFaces k = ArePresent (length k.source.faces) k.tiles (holds_face k.source (plan_by k.plan))

-- the entity nodes, each in the tile of its face
abbrev pub AreCutEntities : Cutting → Presence → Type 0
AreCutEntities k = ArePresent (length (entities_in (Some k.source))) k.tiles (holds_entity k.source (plan_by k.plan))

-- what is kept of a coverage that is cut
pub record KeepsCut (k : Cutting) (of_edges of_nodes of_faces of_entities : Presence) : Type 0 where
  pub planned : IsPlanned k
  pub edges : AreCutEdges k of_edges
  pub nodes : AreCutNodes k of_nodes
  pub faces : AreCutFaces k of_faces
  pub entities : AreCutEntities k of_entities
