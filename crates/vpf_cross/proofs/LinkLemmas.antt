-- The darts of the tiles of a coverage, by their numbers.
use Rattle.std.proofs.Common.{◌≡◌, ℕ, ◌^◌, ◌<◌, Bool, true, false, not, Some, List, refl, ap, ◌∙◌, arith}
use Rattle.vpf_darts.specs.Darts.{code, tile_in, edge_in, flip, sign_in, sign_of}
use Rattle.vpf_prims.specs.Coverages.{CoverageTables, tile_at}
use Rattle.vpf_prims.specs.Lists.{kth}
use Rattle.vpf_prims.specs.Primitives.{EdgePrimitive, absent_edge, edges_in, tile_edges}
use Rattle.vpf_prims.specs.Reading.{primitives_of}
use Rattle.vpf_prims.specs.Tables.{TileTables}
use Rattle.vpf_wing.specs.Links.{links_of, link_of, edge_of_dart, face_by, is_minus, node_by, wing_by}
use Rattle.vpf_prims.specs.Libraries.{library_of, primitives_in}

pub tile-code : (t k : ℕ) (m : Bool) → k < 2 ^ 32 → tile_in (code t k (sign_of m)) ≡ t
unfolding tile_in code
tile-code t k true h = omega arith
tile-code t k false h = omega arith

pub edge-code : (t k : ℕ) (m : Bool) → k < 2 ^ 32 → edge_in (code t k (sign_of m)) ≡ k
unfolding edge_in code
edge-code t k true h = omega arith
edge-code t k false h = omega arith

pub sign-code : (t k : ℕ) (m : Bool) → sign_in (code t k (sign_of m)) ≡ sign_of m
unfolding sign_in code
sign-code t k true = omega arith
sign-code t k false = omega arith

pub minus-code : (t k : ℕ) (m : Bool) → is_minus (code t k (sign_of m)) ≡ m
minus-code t k true = rw (sign-code t k true) refl
minus-code t k false = rw (sign-code t k false) refl

-- the other dart of an edge
pub flip-plus : (t k : ℕ) → flip (code t k 0) ≡ code t k 1
unfolding flip code
flip-plus t k = omega arith

flip-minus : (t k : ℕ) → flip (code t k 1) ≡ code t k 0
unfolding flip code
flip-minus t k = omega arith

pub flip-code : (t k : ℕ) (s : Bool) → flip (code t k (sign_of s)) ≡ code t k (sign_of (not s))
flip-code t k false = flip-plus t k
flip-code t k true = flip-minus t k

-- the edges of a tile
pub edges_at : (c : CoverageTables) (t : ℕ) (T : TileTables) → tile_at c t ≡ Some T → tile_edges (library_of c) t ≡ (primitives_of T.tables).edges
edges_at c t T e = ap (λ o. edges_in (primitives_in o)) e

-- the edge of a dart
pub edge_at : (c : CoverageTables) (t : ℕ) (T : TileTables) (k : ℕ) (m : Bool) → tile_at c t ≡ Some T → k < 2 ^ 32
    → edge_of_dart (library_of c) (code t k (sign_of m)) ≡ kth (primitives_of T.tables).edges k absent_edge
edge_at c t T k m e h =
    ap (λ x. kth (tile_edges (library_of c) x) (edge_in (code t k (sign_of m))) absent_edge) (tile-code t k m h)
    ∙ ap (λ x. kth (tile_edges (library_of c) t) x absent_edge) (edge-code t k m h)
    ∙ ap (λ (es : List EdgePrimitive). kth es k absent_edge) (edges_at c t T e)

-- its head node
pub node_at : (c : CoverageTables) (t : ℕ) (T : TileTables) (k : ℕ) (m : Bool) → tile_at c t ≡ Some T → k < 2 ^ 32
    → (links_of (library_of c)).node (code t k (sign_of m)) ≡ link_of (node_by m (kth (primitives_of T.tables).edges k absent_edge))
node_at c t T k m e h =
    ap (λ b. link_of (node_by b (edge_of_dart (library_of c) (code t k (sign_of m))))) (minus-code t k m)
    ∙ ap (λ (x : EdgePrimitive). link_of (node_by m x)) (edge_at c t T k m e h)

-- its face, and its wing
pub face_at : (c : CoverageTables) (t : ℕ) (T : TileTables) (k : ℕ) (m : Bool) → tile_at c t ≡ Some T → k < 2 ^ 32
    → (links_of (library_of c)).face (code t k (sign_of m)) ≡ link_of (face_by m (kth (primitives_of T.tables).edges k absent_edge))
face_at c t T k m e h =
    ap (λ b. link_of (face_by b (edge_of_dart (library_of c) (code t k (sign_of m))))) (minus-code t k m)
    ∙ ap (λ (x : EdgePrimitive). link_of (face_by m x)) (edge_at c t T k m e h)

pub wing_at : (c : CoverageTables) (t : ℕ) (T : TileTables) (k : ℕ) (m : Bool) → tile_at c t ≡ Some T → k < 2 ^ 32
    → (links_of (library_of c)).wing (code t k (sign_of m)) ≡ link_of (wing_by m (kth (primitives_of T.tables).edges k absent_edge))
wing_at c t T k m e h =
    ap (λ b. link_of (wing_by b (edge_of_dart (library_of c) (code t k (sign_of m))))) (minus-code t k m)
    ∙ ap (λ (x : EdgePrimitive). link_of (wing_by m x)) (edge_at c t T k m e h)
