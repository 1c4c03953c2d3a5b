-- A well-formed untiled coverage, and the cycles of each tile of a tiled one (MIL-STD-2407, 5.2.2, winged-edge topology).
use Rattle.std.specs.Prelude.{◌≡◌, ◌≢◌, ◌⊎◌, ℕ, ◌≤◌, true, ◌==◌, Some}
use Rattle.vpf_darts.specs.Darts.{code, tile_in, edge_in, flip}
use Rattle.vpf_darts.specs.Maps.{turn}
use Rattle.vpf_prims.specs.Lists.{kth, first_item}
use Rattle.vpf_prims.specs.References.{id_of}
use Rattle.vpf_prims.specs.Primitives.{Primitives, Library, untiled, absent_face, absent_ring, absent_node, tile_faces, tile_rings, tile_nodes, face_count, ring_count, node_count}
use Rattle.vpf_prims.specs.Numbering.{IsRowOf, IsNumbered}
use Rattle.vpf_wing.specs.Walks.{LeadsTo}
use Rattle.vpf_wing.specs.Links.{DartLinks, links_of, tail_node, local_next, local_map}

-- d is a dart of the tile
pub record IsDartOf (C : DartLinks) (t d : ℕ) : Type 0 where
  pub has : C.has d ≡ true
  pub tile : tile_in d ≡ t

-- d is a dart of the start edge of ring r that has the ring's face
pub record StartsRing (L : Library) (t r d : ℕ) : Type 0 where
  pub row : IsRowOf (ring_count L t) r
  pub dart : IsDartOf (links_of L) t d
  pub edge : edge_in d ≡ id_of (kth (tile_rings L t) r absent_ring).start_edge
  pub face : ((links_of L).face d).id ≡ id_of (kth (tile_rings L t) r absent_ring).face

-- the ring r goes round the cycle of d
pub record GoesRound (L : Library) (t r d : ℕ) : Type 0 where
  pub start : ℕ
  pub starts : StartsRing L t r start
  pub on : LeadsTo (local_map (links_of L)).next d start

-- the edge e of a tile begins or ends at the node n
abbrev pub IsAtNode : DartLinks → (t e n : ℕ) → Type 0
IsAtNode C t e n = (tail_node C (code t e 0) ≡ n) ⊎ (tail_node C (code t e 1) ≡ n)

-- The cycles of a tile, by its own numbers. That each face but the universe has a ring follows from the range of ring_ptr.
pub record HasCycles (L : Library) (t : ℕ) : Type 0 where
  -- each dart has a next, and no two have the same
  pub next : (d : ℕ) → IsDartOf (links_of L) t d → (e : ℕ) × (local_next (links_of L) d ≡ Some e)
  pub next_apart : (d e : ℕ) → IsDartOf (links_of L) t d → IsDartOf (links_of L) t e → local_next (links_of L) d ≡ local_next (links_of L) e → d ≡ e
  -- the darts that begin at a node are one cycle of turn
  pub node : (d e : ℕ) → IsDartOf (links_of L) t d → IsDartOf (links_of L) t e → tail_node (links_of L) d ≡ tail_node (links_of L) e → LeadsTo (turn (local_map (links_of L))) d e
  -- an edge with one face on both sides has both darts on one cycle
  pub sides : (d : ℕ) → IsDartOf (links_of L) t d → ((links_of L).face d).id ≡ ((links_of L).face (flip d)).id → LeadsTo (local_map (links_of L)).next d (flip d)
  -- each ring goes round a cycle of its face, and each cycle has exactly one ring
  pub ring_cycle : (r : ℕ) → IsRowOf (ring_count L t) r → (d : ℕ) × StartsRing L t r d
  pub cycle_ring : (d : ℕ) → IsDartOf (links_of L) t d → (r : ℕ) × GoesRound L t r d
  pub ring_once : (r s d : ℕ) → IsDartOf (links_of L) t d → GoesRound L t r d → GoesRound L t s d → r ≡ s
  -- the rings of a face stand together, and the face names the first of them
  pub together : (p q r : ℕ) → p ≤ q → q ≤ r → IsRowOf (ring_count L t) p → IsRowOf (ring_count L t) r → id_of (kth (tile_rings L t) p absent_ring).face ≡ id_of (kth (tile_rings L t) r absent_ring).face
      → id_of (kth (tile_rings L t) q absent_ring).face ≡ id_of (kth (tile_rings L t) p absent_ring).face
  pub ring_ptr : (f : ℕ) → IsRowOf (face_count L t) f → id_of (kth (tile_faces L t) f absent_face).ring_ptr ≡ first_item (λ r. id_of r.face == f) (tile_rings L t)
  -- a node names an edge at it
  pub first_edge : (n : ℕ) → IsRowOf (node_count L t) n → IsAtNode (links_of L) t (id_of (kth (tile_nodes L t) n absent_node).first_edge) n

-- a loop has two different faces
abbrev pub HasLoops : DartLinks → Type 0
HasLoops C = (d : ℕ) → C.has d ≡ true → tail_node C d ≡ tail_node C (flip d) → (C.face d).id ≢ (C.face (flip d)).id

-- an untiled coverage whose numbers, loops, cycles, rings and nodes are right
pub record IsWellFormed (c : Primitives) : Type 0 where
  pub numbered : IsNumbered (untiled c) 0
  pub loops : HasLoops (links_of (untiled c))
  pub cycles : HasCycles (untiled c) 0
