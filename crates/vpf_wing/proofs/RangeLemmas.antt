-- What the rows of a tile name, by the numbers of its own edges, nodes and rings.
use Rattle.std.proofs.Common.{[], ◌≡◌, ℕ, zero, suc, ◌-◌, ◌≤◌, List, ◌∷◌, length, map, get_or, sym, subst, arith}
use Rattle.std.specs.Prelude.{All}
use Rattle.std.proofs.lemmas.List.{length-map}
use Rattle.std.proofs.lemmas.List.Elements.{All-map, All-cons, All-nil, All-head, All-tail}
use Rattle.vpf_prims.specs.declared.rows.Edge.{Edge}
use Rattle.vpf_prims.specs.Lists.{kth}
use Rattle.vpf_prims.specs.Edges.{IsEdge, HaveWings}
use Rattle.vpf_prims.specs.Numbering.{IsRowOf}
use Rattle.vpf_prims.specs.Inner.Owning.{NamesItsOwn, OwnsEdge, OwnsRing}
use Rattle.vpf_prims.specs.Primitives.{EdgePrimitive, RingPrimitive, Primitives, own_edge, own_edges, absent_edge, absent_node, absent_ring}
use Rattle.vpf_prims.specs.Reading.{primitives_of}
use Rattle.vpf_prims.specs.References.{id_of}
use Rattle.vpf_prims.specs.Tables.{TileTables}
use Rattle.vpf_wing.specs.declared.rings.Ring.{Ring}
use Rattle.vpf_wing.specs.CycleLines.{own_ring, own_rings, faces_of_rings}
use Rattle.vpf_wing.specs.Nexts.{edge_at}
use Rattle.vpf_wing.specs.Places.{tails}
use Rattle.vpf_wing.specs.Inner.RangeLaws.{own_edge_at}

-- what holds of each item by its number holds of all
all_by_number : {X : Type 0} (P : X → Type 0) (xs : List X) (absent : X) → ((k : ℕ) → IsRowOf (length xs) k → P (kth xs k absent)) → All P xs
all_by_number P [] absent h = All-nil P
all_by_number P (x ∷ xs) absent h = All-cons P x xs (h 1 (omega arith, omega arith)) (all_by_number P xs absent (rest P x xs absent h)) where
  rest : {X : Type 0} (P : X → Type 0) (x : X) (xs : List X) (absent : X) → ((k : ℕ) → IsRowOf (length (x ∷ xs)) k → P (kth (x ∷ xs) k absent))
      → (k : ℕ) → IsRowOf (length xs) k → P (kth xs k absent)
  rest P x xs absent h zero in' = absurd (omega (arith, in'.0))
  rest P x xs absent h (suc i) in' = h (suc (suc i)) (omega arith, omega (arith, in'.1))

-- an edge, as its row is read
pub edge_of_row : (T : TileTables) (e : ℕ) → IsEdge (length (own_edges (primitives_of T.tables))) e
    → edge_at (own_edges (primitives_of T.tables)) e ≡ own_edge (kth (primitives_of T.tables).edges e absent_edge)
edge_of_row T zero in' = absurd (omega (arith, in'.0))
edge_of_row T (suc i) in' = let e : suc i - 1 ≡ i = omega arith in rw e (own_edge_at (primitives_of T.tables).edges i)

-- there are as many edges by their own numbers
edge_count : (c : Primitives) → length (own_edges c) ≡ length c.edges
edge_count c = length-map c.edges own_edge

edges_in : (c : Primitives) → NamesItsOwn c → All (OwnsEdge c) c.edges
edges_in c h = all_by_number (OwnsEdge c) c.edges absent_edge h.edges

-- the wings of a tile are among its edges
pub wings_in : (c : Primitives) → NamesItsOwn c → HaveWings (length (own_edges c)) (own_edges c)
wings_in c h =
    let among : HaveWings (length c.edges) (own_edges c) = All-map (λ (e : Edge). IsEdge (length c.edges) e.right_edge × IsEdge (length c.edges) e.left_edge) own_edge c.edges (λ k d l. let e : OwnsEdge c (get_or c.edges k d) = edges_in c h k d l in (e.right_edge, e.left_edge)) in
    subst (λ (n : ℕ). HaveWings n (own_edges c)) (sym (edge_count c)) among

tails_by : (c : Primitives) (es : List EdgePrimitive) → All (OwnsEdge c) es → All (λ node. node ≤ length c.nodes) (tails (map own_edge es))
tails_by c [] h = All-nil (λ node. node ≤ length c.nodes)
tails_by c (e ∷ es) h =
    let here : OwnsEdge c e = All-head (OwnsEdge c) e es h in
    All-cons (λ node. node ≤ length c.nodes) (id_of e.start_node) (id_of e.end_node ∷ tails (map own_edge es)) here.start_node.1
    (All-cons (λ node. node ≤ length c.nodes) (id_of e.end_node) (tails (map own_edge es)) here.end_node.1 (tails_by c es (All-tail (OwnsEdge c) e es h)))

-- its darts begin at its nodes
pub tails_in : (c : Primitives) → NamesItsOwn c → All (λ node. node ≤ length c.nodes) (tails (own_edges c))
tails_in c h = tails_by c c.edges (edges_in c h)

rings_in : (c : Primitives) → NamesItsOwn c → All (OwnsRing c) c.rings
rings_in c h = all_by_number (OwnsRing c) c.rings absent_ring h.rings

-- its nodes name its edges
pub first_edge_in : (c : Primitives) → NamesItsOwn c → (n : ℕ) → IsRowOf (length c.nodes) n
    → IsEdge (length (own_edges c)) (id_of (kth c.nodes n absent_node).first_edge)
first_edge_in c h n in' = subst (λ (m : ℕ). IsEdge m (id_of (kth c.nodes n absent_node).first_edge)) (sym (edge_count c)) (h.first_edges n in')

faces_by : (c : Primitives) (rings : List RingPrimitive) → All (OwnsRing c) rings → All (λ face. face ≤ length c.faces) (faces_of_rings (map own_ring rings))
faces_by c [] h = All-nil (λ face. face ≤ length c.faces)
faces_by c (r ∷ rings) h =
    let here : OwnsRing c r = All-head (OwnsRing c) r rings h in
    All-cons (λ face. face ≤ length c.faces) (id_of r.face) (faces_of_rings (map own_ring rings)) here.face.1 (faces_by c rings (All-tail (OwnsRing c) r rings h))

-- the faces of its rings
pub faces_in : (c : Primitives) → NamesItsOwn c → All (λ face. face ≤ length c.faces) (faces_of_rings (own_rings c))
faces_in c h = faces_by c c.rings (rings_in c h)

-- their start edges
pub starts_in : (c : Primitives) → NamesItsOwn c → All (λ (ring : Ring). IsEdge (length (own_edges c)) ring.start_edge) (own_rings c)
starts_in c h =
    let among : All (λ (ring : Ring). IsEdge (length c.edges) ring.start_edge) (own_rings c) = All-map (λ (ring : Ring). IsEdge (length c.edges) ring.start_edge) own_ring c.rings (λ k d l. let r : OwnsRing c (get_or c.rings k d) = rings_in c h k d l in r.start_edge) in
    subst (λ (n : ℕ). All (λ (ring : Ring). IsEdge n ring.start_edge) (own_rings c)) (sym (edge_count c)) among
