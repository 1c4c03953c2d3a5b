-- Tables with no finding name rows of their own tile.
use Rattle.std.proofs.Common.{◌≡◌, inl, inr, ℕ, ◌≤◌, Option, Some, None, length, refl, ap, subst}
use Rattle.std.specs.Option.{option_map}
use Rattle.vpf_triplet.specs.declared.triplets.Triplet.{Triplet}
use Rattle.vpf_prims.specs.Lists.{kth}
use Rattle.vpf_prims.specs.Numbering.{IsCross, IsEdgeOf, IsEntityOf, IsFace, IsFaceOf, IsNodeOf, IsNumbered, IsPlain, IsReference, IsRingOf, IsRowOf}
use Rattle.vpf_prims.specs.Inner.Owning.{NamesItsOwn, OwnsEdge, OwnsRing}
use Rattle.vpf_prims.specs.Primitives.{EdgePrimitive, Library, Primitives, RingPrimitive, absent_edge, absent_entity, absent_face, absent_node, absent_ring, edge_count, edges_in, entities_in, face_count, faces_in, node_count, nodes_in, ring_count, rings_in}
use Rattle.vpf_prims.specs.Reading.{primitives_of}
use Rattle.vpf_prims.specs.References.{id_of}
use Rattle.vpf_prims.specs.Tables.{TileTables}
use Rattle.vpf_numbers.specs.Around.{Around, tables_around}
use Rattle.vpf_numbers.specs.TableLines.{numbers_finding}
use Rattle.vpf_numbers.proofs.NumbersBeyond.{IsSeen}
use Rattle.vpf_numbers.proofs.NumbersTables.{Each, numbers_seen, tile_seen}

-- a reference within the tile
plain_owned : (last : ℕ) (r : Triplet) → IsPlain 1 last r → IsRowOf last (id_of r)
plain_owned last r p = rw p.is (p.from_low, p.to_last)

plain_most : (low last : ℕ) (r : Triplet) → IsPlain low last r → id_of r ≤ last
plain_most low last r p = rw p.is p.to_last

cross_owned : (L : Library) (count : ℕ → ℕ) (t low : ℕ) (r : Triplet) → IsCross L count t low r → IsRowOf (count t) (id_of r)
cross_owned L count t low r x = rw x.is x.here

reference_owned : (L : Library) (count : ℕ → ℕ) (t : ℕ) (r : Triplet) → IsReference L count t r → IsRowOf (count t) (id_of r)
reference_owned L count t r (inl p) = plain_owned (count t) r p
reference_owned L count t r (inr x) = cross_owned L count t 1 r x

face_owned : (L : Library) (t : ℕ) (r : Triplet) → IsFace L t r → IsRowOf (face_count L t) (id_of r)
face_owned L t r (inl p) = plain_owned (face_count L t) r p
face_owned L t r (inr x) = cross_owned L (face_count L) t 2 r x.0

-- the numbers of an edge and of a ring
edge_owned : (L : Library) (t k : ℕ) (c : Primitives) (e : EdgePrimitive) → L.tile t ≡ Some c → IsEdgeOf L t k e → OwnsEdge c e
edge_owned L t k c e is h =
    let nodes : node_count L t ≡ length c.nodes = ap (λ (o : Option Primitives). length (nodes_in o)) is in
    let faces : face_count L t ≡ length c.faces = ap (λ (o : Option Primitives). length (faces_in o)) is in
    let edges : edge_count L t ≡ length c.edges = ap (λ (o : Option Primitives). length (edges_in o)) is in
    record {
      start_node = subst (λ (m : ℕ). IsRowOf m (id_of e.start_node)) nodes (reference_owned L (node_count L) t e.start_node h.start_node);
      end_node = subst (λ (m : ℕ). IsRowOf m (id_of e.end_node)) nodes (reference_owned L (node_count L) t e.end_node h.end_node);
      right_face = subst (λ (m : ℕ). IsRowOf m (id_of e.right_face)) faces (face_owned L t e.right_face h.right_face);
      left_face = subst (λ (m : ℕ). IsRowOf m (id_of e.left_face)) faces (face_owned L t e.left_face h.left_face);
      right_edge = subst (λ (m : ℕ). IsRowOf m (id_of e.right_edge)) edges (reference_owned L (edge_count L) t e.right_edge h.right_edge);
      left_edge = subst (λ (m : ℕ). IsRowOf m (id_of e.left_edge)) edges (reference_owned L (edge_count L) t e.left_edge h.left_edge);
    }

ring_owned : (L : Library) (t k : ℕ) (c : Primitives) (r : RingPrimitive) → L.tile t ≡ Some c → IsRingOf L t k r → OwnsRing c r
ring_owned L t k c r is h =
    let faces : face_count L t ≡ length c.faces = ap (λ (o : Option Primitives). length (faces_in o)) is in
    let edges : edge_count L t ≡ length c.edges = ap (λ (o : Option Primitives). length (edges_in o)) is in
    record {
      face = subst (λ (m : ℕ). IsRowOf m (id_of r.face)) faces (plain_owned (face_count L t) r.face h.face);
      start_edge = subst (λ (m : ℕ). IsRowOf m (id_of r.start_edge)) edges (plain_owned (edge_count L t) r.start_edge h.start_edge);
    }

-- what is numbered names its own
numbered_owns : (L : Library) (t : ℕ) (c : Primitives) → L.tile t ≡ Some c → IsNumbered L t → NamesItsOwn c
numbered_owns L t c is n =
    let faces : face_count L t ≡ length c.faces = ap (λ (o : Option Primitives). length (faces_in o)) is in
    let rings : ring_count L t ≡ length c.rings = ap (λ (o : Option Primitives). length (rings_in o)) is in
    let edges : edge_count L t ≡ length c.edges = ap (λ (o : Option Primitives). length (edges_in o)) is in
    let each_edge : Each (IsEdgeOf L t) c.edges absent_edge = subst (λ (o : Option Primitives). Each (IsEdgeOf L t) (edges_in o) absent_edge) is n.edges in
    let each_face : Each (IsFaceOf L t) c.faces absent_face = subst (λ (o : Option Primitives). Each (IsFaceOf L t) (faces_in o) absent_face) is n.faces in
    let each_ring : Each (IsRingOf L t) c.rings absent_ring = subst (λ (o : Option Primitives). Each (IsRingOf L t) (rings_in o) absent_ring) is n.rings in
    let each_node : Each (IsNodeOf L t) c.nodes absent_node = subst (λ (o : Option Primitives). Each (IsNodeOf L t) (nodes_in o) absent_node) is n.nodes in
    let each_entity : Each (IsEntityOf L t) (entities_in (Some c)) absent_entity = subst (λ (o : Option Primitives). Each (IsEntityOf L t) (entities_in o) absent_entity) is n.entities in
    record {
      edges = λ k l. edge_owned L t k c (kth c.edges k absent_edge) is (each_edge k l);
      ring_ptrs = λ k l. subst (λ (m : ℕ). id_of (kth c.faces k absent_face).ring_ptr ≤ m) rings (plain_most _ (ring_count L t) (kth c.faces k absent_face).ring_ptr (each_face k l).ring_ptr);
      rings = λ k l. ring_owned L t k c (kth c.rings k absent_ring) is (each_ring k l);
      first_edges = λ k l. subst (λ (m : ℕ). IsRowOf m (id_of (kth c.nodes k absent_node).first_edge)) edges (plain_owned (edge_count L t) (kth c.nodes k absent_node).first_edge (each_node k l).first_edge);
      entities = λ k l. subst (λ (m : ℕ). IsRowOf m (id_of (kth (entities_in (Some c)) k absent_entity).containing_face)) faces (plain_owned (face_count L t) (kth (entities_in (Some c)) k absent_entity).containing_face (each_entity k l).containing_face);
      universe = subst (λ (m : ℕ). 1 ≤ m) faces n.universe;
    }

-- the library of what is known around a tile
library_in : Around → Library
library_in A = record { is_tiled = A.is_tiled; last = 0; tile = λ t. option_map primitives_of (tables_around A t) }

itself_seen : (A : Around) → IsSeen A (library_in A)
unfolding library_in
itself_seen A = record { tiled = refl; tiles = λ t. refl }

-- tables with no finding
pub tables_own : (A : Around) (t : ℕ) (T : TileTables) → tables_around A t ≡ Some T.tables → numbers_finding t A T ≡ None → NamesItsOwn (primitives_of T.tables)
tables_own A t T here none =
    let seen = itself_seen A in
    numbered_owns (library_in A) t (primitives_of T.tables) (tile_seen A (library_in A) seen t T.tables here) ((numbers_seen A (library_in A) seen t T here).0 none).2
