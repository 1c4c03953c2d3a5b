-- What the rows of the tables say.
use Rattle.std.proofs.Common.{◌≡◌, ℕ, zero, suc, ◌+◌, List, ◌∷◌, map, refl, ap, ◌∙◌}
use Rattle.std.specs.Prelude.{None}
use Rattle.std.specs.List.{enumerate_from, range_with_len}
use Rattle.vpf_table.specs.Grid.{Row}
use Rattle.vpf_prims.specs.Primitives.{EdgePrimitive, FacePrimitive, RingPrimitive, NodePrimitive, Primitives}
use Rattle.vpf_prims.specs.Reading.{edge_in_row, face_in_row, ring_in_row, node_in_row, primitives_of}
use Rattle.vpf_vectors.specs.Cells.Numbers.{nodes, edges, faces}
use Rattle.vpf_vectors.specs.Cells.Rows.{row_of_edge, grid_ring_row, first_edge}
use Rattle.vpf_vectors.specs.Inner.GridCoverage.Coverage.{grid_edge, grid_face, grid_ring, grid_node, grid_primitives}
use Rattle.vpf_vectors.specs.Heads.{edge_head, face_head, ring_head, node_head}
use Rattle.vpf_vectors.specs.Library.{coverage_tables}
use Rattle.vpf_vectors.specs.Tables.{edge_cells, ring_cells, pair_cells}

-- rows that are numbered from where their ids begin, as they are read
said : {X Y : Type 0} (read : Row → Y) (cells : ℕ × X → Row) (f : ℕ → X) (want : ℕ → Y) → ((k : ℕ) → read (cells (k, f k)) ≡ want k)
    → (a m : ℕ) → map read (map cells (enumerate_from a (map f (range_with_len a m)))) ≡ map want (range_with_len a m)
said read cells f want h a zero = refl
said read cells f want h a (suc m) =
    ap (λ y. y ∷ map read (map cells (enumerate_from (a + 1) (map f (range_with_len (a + 1) m))))) (h a)
    ∙ ap (λ ys. want a ∷ ys) (said read cells f want h (a + 1) m)

-- the same of rows that are their ids
said_ids : {Y : Type 0} (read : Row → Y) (cells : ℕ × ℕ → Row) (want : ℕ → Y) → ((k : ℕ) → read (cells (k, k)) ≡ want k)
    → (a m : ℕ) → map read (map cells (enumerate_from a (range_with_len a m))) ≡ map want (range_with_len a m)
said_ids read cells want h a zero = refl
said_ids read cells want h a (suc m) =
    ap (λ y. y ∷ map read (map cells (enumerate_from (a + 1) (range_with_len (a + 1) m)))) (h a)
    ∙ ap (λ ys. want a ∷ ys) (said_ids read cells want h (a + 1) m)

edge_said : (n k : ℕ) → edge_in_row edge_head.columns (edge_cells (k, row_of_edge n k)) ≡ grid_edge n k
edge_said n k = refl

face_said : (k : ℕ) → face_in_row face_head.columns (pair_cells (k, k)) ≡ grid_face k
face_said k = refl

ring_said : (k : ℕ) → ring_in_row ring_head.columns (ring_cells (k, grid_ring_row k)) ≡ grid_ring k
ring_said k = refl

node_said : (n k : ℕ) → node_in_row node_head.columns (pair_cells (k, first_edge n k)) ≡ grid_node n k
node_said n k = refl

abbrev primitives : List EdgePrimitive → List FacePrimitive → List RingPrimitive → List NodePrimitive → Primitives
primitives es gs rs ks = record { edges = es; faces = gs; rings = rs; nodes = ks; entities = None }

same : (es fs : List EdgePrimitive) (gs hs : List FacePrimitive) (rs ss : List RingPrimitive) (ks ls : List NodePrimitive)
    → es ≡ fs → gs ≡ hs → rs ≡ ss → ks ≡ ls → primitives es gs rs ks ≡ primitives fs hs ss ls
same es fs gs hs rs ss ks ls e g r k =
    ap (λ xs. primitives xs gs rs ks) e ∙ ap (λ xs. primitives fs xs rs ks) g ∙ ap (λ xs. primitives fs hs xs ks) r ∙ ap (λ xs. primitives fs hs ss xs) k

pub says_grid : (n : ℕ) → primitives_of (coverage_tables n) ≡ grid_primitives n
says_grid n =
    same (primitives_of (coverage_tables n)).edges (grid_primitives n).edges (primitives_of (coverage_tables n)).faces (grid_primitives n).faces
    (primitives_of (coverage_tables n)).rings (grid_primitives n).rings (primitives_of (coverage_tables n)).nodes (grid_primitives n).nodes
    (said (edge_in_row edge_head.columns) edge_cells (row_of_edge n) (grid_edge n) (edge_said n) 1 (edges n))
    (said_ids (face_in_row face_head.columns) pair_cells grid_face face_said 1 (faces n))
    (said (ring_in_row ring_head.columns) ring_cells grid_ring_row grid_ring ring_said 1 (faces n))
    (said (node_in_row node_head.columns) pair_cells (first_edge n) (grid_node n) (node_said n) 1 (nodes n))
