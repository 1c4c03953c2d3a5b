-- What rows that are numbered name is there.
use Rattle.std.proofs.Common.{◌≡◌, ℕ, ◌+◌, ◌*◌, ◌/◌, ◌%◌, ◌^◌, ◌<◌, ◌≤◌, Bool, true, false, cond, eqb, sym, ap, subst, arith}
use Rattle.vpf_triplet.specs.declared.triplets.Triplet.{Triplet}
use Rattle.vpf_prims.specs.declared.rows.Edge.{Edge}
use Rattle.vpf_prims.specs.Lists.{kth}
use Rattle.vpf_prims.specs.References.{id_of}
use Rattle.vpf_prims.specs.Edges.{IsEdge}
use Rattle.vpf_prims.specs.Primitives.{EdgePrimitive, Library, absent_edge, tile_edges, edge_count, node_count, own_edge}
use Rattle.vpf_prims.specs.Numbering.{IsRowOf, IsPlain, IsEdgeOf, IsNumbered}
use Rattle.vpf_wing.specs.Nexts.{dart_at, tail, wing}
use Rattle.vpf_wing.proofs.LawLinks.{rows_of, rows_count, edge_row}
use Rattle.vpf_wing.proofs.LawPlaces.{IsTile}
use Rattle.vpf_wing.specs.Inner.NumberLaws.{reference_row}

pub plain_row : (low last : ℕ) (r : Triplet) → IsPlain low last r → (low ≤ id_of r) × (id_of r ≤ last)
plain_row low last r p = let e : id_of r ≡ p.id = ap id_of p.is in let a = p.from_low in let b = p.to_last in (omega arith, omega arith)

-- the row of the dart at a place
edge_of_place : (L : Library) (t p : ℕ) → IsNumbered L t → p < 2 * edge_count L t → IsEdgeOf L t (p / 2 + 1) (kth (tile_edges L t) (p / 2 + 1) absent_edge)
edge_of_place L t p numbered h = numbered.edges (p / 2 + 1) (omega arith, omega arith)

wing_by : (m : Bool) (e : Edge) (n : ℕ) → IsRowOf n e.right_edge → IsRowOf n e.left_edge → IsRowOf n (cond m e.left_edge e.right_edge)
wing_by true e n r l = l
wing_by false e n r l = r

tail_by : (m : Bool) (e : Edge) (n : ℕ) → IsRowOf n e.start_node → IsRowOf n e.end_node → IsRowOf n (cond m e.end_node e.start_node)
tail_by true e n s d = d
tail_by false e n s d = s

pub wing_row : (L : Library) (t p : ℕ) → IsNumbered L t → p < 2 * edge_count L t → IsEdge (edge_count L t) (wing (rows_of L t) (dart_at p))
unfolding wing
wing_row L t p numbered h =
    let e : EdgePrimitive = kth (tile_edges L t) (p / 2 + 1) absent_edge in
    let is : IsEdgeOf L t (p / 2 + 1) (kth (tile_edges L t) (p / 2 + 1) absent_edge) = edge_of_place L t p numbered h in
    let row = wing_by (eqb (p % 2) 1) (own_edge (kth (tile_edges L t) (p / 2 + 1) absent_edge)) (edge_count L t)
    (reference_row L (edge_count L) t e.right_edge is.right_edge) (reference_row L (edge_count L) t e.left_edge is.left_edge) in
    subst (λ (x : Edge). IsRowOf (edge_count L t) (cond (eqb (p % 2) 1) x.left_edge x.right_edge)) (edge_row (tile_edges L t) (p / 2)) row

-- the node where a dart begins is there
pub tail_row : (L : Library) (t p : ℕ) → IsNumbered L t → p < 2 * edge_count L t → IsRowOf (node_count L t) (tail (rows_of L t) (dart_at p))
unfolding tail
tail_row L t p numbered h =
    let e : EdgePrimitive = kth (tile_edges L t) (p / 2 + 1) absent_edge in
    let is : IsEdgeOf L t (p / 2 + 1) (kth (tile_edges L t) (p / 2 + 1) absent_edge) = edge_of_place L t p numbered h in
    let row = tail_by (eqb (p % 2) 1) (own_edge (kth (tile_edges L t) (p / 2 + 1) absent_edge)) (node_count L t)
    (reference_row L (node_count L) t e.start_node is.start_node) (reference_row L (node_count L) t e.end_node is.end_node) in
    subst (λ (x : Edge). IsRowOf (node_count L t) (cond (eqb (p % 2) 1) x.end_node x.start_node)) (edge_row (tile_edges L t) (p / 2)) row

pub tile_of : (L : Library) (t : ℕ) → t ≤ L.last → edge_count L t < 2 ^ 24 → IsNumbered L t → IsTile L t
tile_of L t last few numbered = record {
  last = last;
  few = few;
  among = λ p h. subst (λ n. IsEdge n (wing (rows_of L t) (dart_at p))) (sym (rows_count L t))
      (wing_row L t p numbered (subst (λ n. p < 2 * n) (rows_count L t) h));
}
