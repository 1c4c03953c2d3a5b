-- The rows of a tiled library are numbered, and what they name is there.
use Rattle.std.proofs.Common.{◌≡◌, ◌≢◌, ℕ, zero, suc, ◌+◌, ◌<◌, ◌≤◌, Bool, true, false, not, cond, eqb, leb, ◌||◌, ◌&&◌, refl, sym, ap, ◌∙◌, subst, inl, inr, arith, ◌∷◌, length, get_or}
use Rattle.std.specs.Prelude.{flat_map}
use Rattle.std.specs.List.{list_any, AllByRecursion}
use Rattle.std.proofs.lemmas.Bool.{not-true, cases_Bool, cases_eq, and_parts, and_from, or_left, or_right, eqb-true, eq-eqb, ne_eqb, leb-true}
use Rattle.vpf_darts.specs.Darts.{code, edge_in, flip}
use Rattle.vpf_prims.specs.Lists.{kth, first_item}
use Rattle.vpf_tiling.specs.Ranks.{up_to, leasts}
use Rattle.vpf_prims.specs.Primitives.{Primitives, Library, EdgePrimitive, RingPrimitive, untiled, absent_edge, absent_face, absent_ring, absent_node, absent_entity, faces_in, nodes_in, tile_faces, tile_rings, tile_nodes, tile_entities, edge_count, face_count, ring_count, node_count}
use Rattle.vpf_prims.specs.References.{id_of}
use Rattle.vpf_tiling.specs.Presence.{untiled_links, tail_of, face_of, holds_face, is_within, is_present, has_node, present_nodes, held_faces, held_entities, holds_entity, containing_face, local_edge, local_node, local_face, tile_map}
use Rattle.vpf_tiling.specs.Tiles.{Ring, reference_to, tiled_edge, tiled_edges, outer_darts, outer_rings, face_rings, tiled_rings, numbered_ring, numbered_face, first_edge_at, numbered_node, tiled_library, is_made}
use Rattle.vpf_prims.specs.Numbering.{IsRowOf, IsFaceOf, IsRingOf, IsNodeOf, IsEntityOf}
use Rattle.vpf_wing.specs.WellFormed.{IsWellFormed, StartsRing}
use Rattle.vpf_tiling.specs.Plans.{IsTileable}
use Rattle.vpf_tiling_laws.proofs.tiled.Parts.{OfTiled, AllNumbered}
use Rattle.vpf_tiling_laws.proofs.tiled.Facts.{MapLaws}
use Rattle.vpf_base.proofs.Lists.{all_joined as all_join}
use Rattle.vpf_wing.specs.Inner.DartLaws.{stands_in, flip-flip}
use Rattle.vpf_tiling_laws.proofs.tiled.NumberLemmas.{edges_by_number}
use Rattle.vpf_tiling_laws.proofs.tiled.CopyLemmas.{tile_is, edges_are}
use Rattle.vpf_tiling_laws.proofs.tiled.SideLemmas.{within_is, Within}
use Rattle.vpf_tiling_laws.proofs.tiled.NextLemmas.{face_id, id_within, id_not}
use Rattle.vpf_tiling_laws.proofs.tiled.RowLemmas.{item_numbered, made_at, made_from, EntityAt, entity_at}
use Rattle.vpf_tiling_laws.proofs.tiled.RoundLemmas.{within_present}
use Rattle.vpf_tiling_laws.proofs.tiled.PlaceLemmas.{all_item, all_from, all_of, all_flat, all_passing, stands_passing, Passing, passing, first_last, first_some, some_first, FirstRow, first_row, any_right, any_flat, any_passing, any_item}
use Rattle.vpf_tiling_laws.proofs.tiled.ReferenceLemmas.{nodes_many, faces_many, rings_are, rings_many, edge_to, edge_row_in, FaceHere, face_here, universe_in, edges_numbered}
use Rattle.vpf_tiling.specs.Inner.PresenceLaws.{AtNode, InFaces, at_node, dart_is, edge_present, in_faces, no_node_zero, other-code, plus_or, present_has, stands_filter, up_stands}

-- what a ring of a tile goes round: the cycle of a present dart, which has its edge and its face
pub record RingDart (c : Primitives) (plan : ℕ → ℕ) (t : ℕ) (r : Ring) : Type 0 where
  pub dart : ℕ
  pub present : is_present c plan t dart ≡ true
  pub edge : local_edge c plan t (edge_in dart) ≡ r.edge
  pub face : face_id c plan t (face_of c dart) ≡ r.face

-- the dart that a ring of the coverage starts with
pub record SourceRing (c : Primitives) (r : RingPrimitive) : Type 0 where
  pub dart : ℕ
  pub has : (untiled_links c).has dart ≡ true
  pub edge : edge_in dart ≡ id_of r.start_edge
  pub face : face_of c dart ≡ id_of r.face

pub source_ring : (c : Primitives) → IsWellFormed c → (j : ℕ) → j < length c.rings → SourceRing c (get_or c.rings j absent_ring)
source_ring c w j lt = (
    let s : (d : ℕ) × StartsRing (untiled c) 0 (suc j) d = w.cycles.ring_cycle (suc j) (omega arith, omega (arith, lt)) in
    record { dart = s.0; has = s.1.dart.has; edge = s.1.edge; face = s.1.face })

pub source_rings : (c : Primitives) → IsWellFormed c → AllByRecursion (SourceRing c) c.rings
source_rings c w = all_from (SourceRing c) c.rings absent_ring (source_ring c w)

pub outer_present : (c : Primitives) (plan : ℕ → ℕ) (t d : ℕ) → stands_in d (outer_darts c plan t) ≡ true
    → (is_present c plan t d ≡ true) × (is_within c plan t d ≡ false)
outer_present c plan t d s = (
    let q = stands_passing (λ d. is_present c plan t d && not (is_within c plan t d)) d (untiled_links c).darts s in
    let p = and_parts (is_present c plan t d) (not (is_within c plan t d)) q.0 in
    (p.0, not-true (is_within c plan t d) p.1))

-- a face of a tile by its place among those
pub record HeldFace (c : Primitives) (plan : ℕ → ℕ) (t f : ℕ) : Type 0 where
  pub holds : holds_face c plan t f ≡ true
  pub faces : InFaces c f
  pub other : f ≢ 1
  pub planned : plan f ≡ t

pub held_is : (c : Primitives) (plan : ℕ → ℕ) (t f : ℕ) → holds_face c plan t f ≡ true → HeldFace c plan t f
held_is c plan t f h = (
    let b = and_parts (leb 2 f && leb f (length c.faces)) (eqb (plan f) t) h in
    let r = and_parts (leb 2 f) (leb f (length c.faces)) b.0 in
    let two : 2 ≤ f = leb-true 2 f r.0 in
    record {
      holds = h;
      faces = record { from_one = omega arith; to_last = leb-true f (length c.faces) r.1 };
      other = λ e. (omega arith);
      planned =
          eqb-true (plan f) t b.1;
    })

pub ring_darts : (c : Primitives) (plan : ℕ → ℕ) → IsWellFormed c → (t : ℕ) → AllByRecursion (RingDart c plan t) (tiled_rings c plan t)
ring_darts c plan w t = all_join (RingDart c plan t) (outer_rings c plan t) (flat_map (face_rings c plan t) (held_faces c plan t)) outer inner
  where
    outer : AllByRecursion (RingDart c plan t) (outer_rings c plan t)
    outer =
        all_of (RingDart c plan t) (λ d. record { face = 1; edge = local_edge c plan t (edge_in d) }) (leasts (tile_map c plan t).next (outer_darts c plan t))
        (λ d s. (
        let o : (is_present c plan t d ≡ true) × (is_within c plan t d ≡ false) = outer_present c plan t d (stands_passing _ d (outer_darts c plan t) s).1 in
        record { dart = d; present = o.0; edge = refl; face = id_not c plan w t d (present_has c plan t d o.0) o.1 }))

    inner : AllByRecursion (RingDart c plan t) (flat_map (face_rings c plan t) (held_faces c plan t))
    inner = all_flat (RingDart c plan t) (face_rings c plan t) (held_faces c plan t) (λ f s. (
        let h : HeldFace c plan t f = held_is c plan t f (stands_passing (holds_face c plan t) f (up_to (length c.faces)) s).0 in
        all_passing (RingDart c plan t) (SourceRing c) (λ r. record { face = local_face c plan t f; edge = local_edge c plan t (id_of r.start_edge) })
        (λ r. eqb (id_of r.face) f) c.rings (source_rings c w) (λ r e k. (
        let same : face_of c k.dart ≡ f = k.face ∙ eqb-true (id_of r.face) f e in
        let i : is_within c plan t k.dart ≡ true =
        and_from ((untiled_links c).has k.dart) (holds_face c plan t (face_of c k.dart)) k.has (ap (holds_face c plan t) same ∙ h.holds) in
        record {
          dart = k.dart;
          present = within_present c plan t k.dart i;
          edge = ap (local_edge c plan t) k.edge;
          face = ap (face_id c plan t) same
              ∙ id_within c plan t f h.other h.planned;
        }))))

pub no_one : Ring
no_one = record { face = 1; edge = 0 }

-- row k of rings
pub ring_at : (c : Primitives) (plan : ℕ → ℕ) (tiles t k : ℕ) → is_made c plan tiles t ≡ true → IsRowOf (length (tiled_rings c plan t)) k
    → kth (tile_rings (tiled_library c plan tiles) t) k absent_ring ≡ numbered_ring k (kth (tiled_rings c plan t) k no_one)
ring_at c plan tiles t k m r =
    ap (λ xs. kth xs k absent_ring) (rings_are c plan tiles t m) ∙ item_numbered numbered_ring (tiled_rings c plan t) k absent_ring no_one r

-- the local face of a dart is that of a row of faces
pub face_row_in : (c : Primitives) (plan : ℕ → ℕ) (tiles : ℕ) → IsTileable c plan tiles → (t d : ℕ) → is_present c plan t d ≡ true
    → IsRowOf (face_count (tiled_library c plan tiles) t) (face_id c plan t (face_of c d))
face_row_in c plan tiles w t d h = elim (cases_Bool (is_within c plan t d)) [
  | inl i ↦ (
      let p : Within c plan t d = within_is c plan t d i in
      let k : FaceHere c plan tiles t (face_of c d) =
      face_here c plan tiles w t (face_of c d) (in_faces c w.well_formed d (present_has c plan t d h)) p.other p.planned in
      let a = k.from_two in
      subst (IsRowOf (face_count (tiled_library c plan tiles) t)) (sym (id_within c plan t (face_of c d) p.other p.planned)) (omega arith, k.to_last))
  | inr n ↦
      subst (IsRowOf (face_count (tiled_library c plan tiles) t)) (sym (id_not c plan w.well_formed t d (present_has c plan t d h) n))
      (omega arith, universe_in c plan tiles t (made_at c plan tiles w t d h))
]

pub rings_numbered : (c : Primitives) (plan : ℕ → ℕ) (tiles : ℕ) → IsTileable c plan tiles → (t : ℕ) → is_made c plan tiles t ≡ true → (k : ℕ)
    → IsRowOf (ring_count (tiled_library c plan tiles) t) k
    → IsRingOf (tiled_library c plan tiles) t k (kth (tile_rings (tiled_library c plan tiles) t) k absent_ring)
rings_numbered c plan tiles w t m k r = (
    let L : Library = tiled_library c plan tiles in
    let r' : IsRowOf (length (tiled_rings c plan t)) k = subst (λ n. IsRowOf n k) (rings_many c plan tiles t m) r in
    let ring : Ring = kth (tiled_rings c plan t) k no_one in
    let d : RingDart c plan t ring = all_item (RingDart c plan t) (tiled_rings c plan t) k no_one (ring_darts c plan w.well_formed t) r' in
    let f : IsRowOf (face_count L t) ring.face = subst (IsRowOf (face_count L t)) d.face (face_row_in c plan tiles w t d.dart d.present) in
    let e : IsRowOf (edge_count L t) ring.edge = subst (IsRowOf (edge_count L t)) d.edge (edge_row_in c plan tiles w t d.dart d.present) in
    subst (IsRingOf L t k) (sym (ring_at c plan tiles t k m r')) (record {
      id = refl;
      face = record { id = ring.face; is = refl; from_low = f.0; to_last = f.1 };
      start_edge = record { id = ring.edge; is = refl; from_low = e.0; to_last = e.1 };
    }))

-- a face of a tile has a ring there
pub face_ringed : (c : Primitives) (plan : ℕ → ℕ) → IsWellFormed c → (t f : ℕ) → holds_face c plan t f ≡ true
    → list_any (λ (r : Ring). eqb r.face (local_face c plan t f)) (tiled_rings c plan t) ≡ true
face_ringed c plan w t f h = (
    let k : HeldFace c plan t f = held_is c plan t f h in
    let row : IsFaceOf (untiled c) 0 f (kth c.faces f absent_face) = w.numbered.faces f (k.faces.from_one, k.faces.to_last) in
    let low : 1 ≤ row.ring_ptr.id = subst (λ b. cond b 0 1 ≤ row.ring_ptr.id) (ne_eqb f 1 k.other) row.ring_ptr.from_low in
    let ptr : id_of (kth c.faces f absent_face).ring_ptr ≡ first_item (λ r. eqb (id_of r.face) f) c.rings =
    w.cycles.ring_ptr f (k.faces.from_one, k.faces.to_last) in
    let is : id_of (kth c.faces f absent_face).ring_ptr ≡ row.ring_ptr.id = ap id_of row.ring_ptr.is in
    let some : list_any (λ (r : RingPrimitive). eqb (id_of r.face) f) c.rings ≡ true =
    some_first 1 (λ (r : RingPrimitive). eqb (id_of r.face) f) c.rings (omega arith) in
    let there : stands_in f (held_faces c plan t) ≡ true =
    stands_filter (holds_face c plan t) f (up_to (length c.faces)) h (up_stands (length c.faces) f k.faces.from_one k.faces.to_last) in
    any_right (λ (r : Ring). eqb r.face (local_face c plan t f)) (outer_rings c plan t) (flat_map (face_rings c plan t) (held_faces c plan t))
    (any_flat (λ (r : Ring). eqb r.face (local_face c plan t f)) (face_rings c plan t) f (held_faces c plan t) there
    (any_passing (λ (r : Ring). eqb r.face (local_face c plan t f))
    (λ (r : RingPrimitive). record { face = local_face c plan t f; edge = local_edge c plan t (id_of r.start_edge) })
    (λ (r : RingPrimitive). eqb (id_of r.face) f) c.rings (λ r e. eq-eqb (local_face c plan t f) (local_face c plan t f) refl) some)))

-- row k of faces
pub face_at : (c : Primitives) (plan : ℕ → ℕ) (tiles t k : ℕ) → is_made c plan tiles t ≡ true → IsRowOf (length (1 ∷ held_faces c plan t)) k
    → kth (tile_faces (tiled_library c plan tiles) t) k absent_face ≡ numbered_face c (tiled_rings c plan t) k (kth (1 ∷ held_faces c plan t) k 0)
face_at c plan tiles t k m r =
    ap (λ o. kth (faces_in o) k absent_face) (tile_is c plan tiles t m)
    ∙ item_numbered (numbered_face c (tiled_rings c plan t)) (1 ∷ held_faces c plan t) k absent_face 0 r

pub ptr_low : (c : Primitives) (plan : ℕ → ℕ) → IsWellFormed c → (t k : ℕ) → IsRowOf (length (1 ∷ held_faces c plan t)) k
    → cond (eqb k 1) 0 1 ≤ first_item (λ (r : Ring). eqb r.face k) (tiled_rings c plan t)
ptr_low c plan w t zero r = absurd (let a = r.0 in omega arith)
ptr_low c plan w t (suc zero) r = omega arith
ptr_low c plan w t (suc (suc j)) r = (
    let b = r.1 in
    let k : ℕ = suc (suc j) in
    let f : ℕ = kth (held_faces c plan t) (suc j) 0 in
    let p : Passing (holds_face c plan t) (length c.faces) (suc j) f = passing (holds_face c plan t) refl (length c.faces) (suc j) (omega arith, omega arith) in
    let e = p.ranks in
    let is : local_face c plan t f ≡ k = omega arith in
    let some : 1 ≤ first_item (λ (r : Ring). eqb r.face k) (tiled_rings c plan t) =
    first_some 1 (λ (r : Ring). eqb r.face k) (tiled_rings c plan t) (omega arith)
    (subst (λ n. list_any (λ (r : Ring). eqb r.face n) (tiled_rings c plan t) ≡ true) is (face_ringed c plan w t f p.passes)) in
    subst (λ b. cond b 0 1 ≤ first_item (λ (r : Ring). eqb r.face k) (tiled_rings c plan t)) (sym (ne_eqb k 1 (λ e. (omega arith)))) some)

pub faces_numbered : (c : Primitives) (plan : ℕ → ℕ) (tiles : ℕ) → IsTileable c plan tiles → (t : ℕ) → is_made c plan tiles t ≡ true → (k : ℕ)
    → IsRowOf (face_count (tiled_library c plan tiles) t) k
    → IsFaceOf (tiled_library c plan tiles) t k (kth (tile_faces (tiled_library c plan tiles) t) k absent_face)
faces_numbered c plan tiles w t m k r = (
    let L : Library = tiled_library c plan tiles in
    let r' : IsRowOf (length (1 ∷ held_faces c plan t)) k = subst (λ n. IsRowOf n k) (faces_many c plan tiles t m) r in
    let many : ring_count L t ≡ length (tiled_rings c plan t) = rings_many c plan tiles t m in
    let n : ℕ = first_item (λ (r : Ring). eqb r.face k) (tiled_rings c plan t) in
    let last : n < length (tiled_rings c plan t) + 1 = first_last 1 (λ (r : Ring). eqb r.face k) (tiled_rings c plan t) (omega arith) in
    subst (IsFaceOf L t k) (sym (face_at c plan tiles t k m r')) (record {
      id = refl;
      ring_ptr = record { id = n; is = refl; from_low = ptr_low c plan w.well_formed t k r'; to_last = omega arith };
    }))

-- row k of nodes
pub node_at : (c : Primitives) (plan : ℕ → ℕ) (tiles t k : ℕ) → is_made c plan tiles t ≡ true → IsRowOf (length (present_nodes c plan t)) k
    → kth (tile_nodes (tiled_library c plan tiles) t) k absent_node ≡ numbered_node c (tiled_edges c plan t) k (kth (present_nodes c plan t) k 0)
node_at c plan tiles t k m r =
    ap (λ o. kth (nodes_in o) k absent_node) (tile_is c plan tiles t m)
    ∙ item_numbered (numbered_node c (tiled_edges c plan t)) (present_nodes c plan t) k absent_node 0 r

-- the row of an edge names the node
abbrev pub names_node : ℕ → EdgePrimitive → Bool
names_node n r = eqb (id_of r.start_node) n || eqb (id_of r.end_node) n

pub reference_number : (t s here there : ℕ) → id_of (reference_to t s here there) ≡ here
reference_number t s here there = elim (cases_eq s t) [ inl e ↦ rw (eq-eqb s t e) refl | inr ne ↦ rw (ne_eqb s t ne) refl ]

pub flip-plus : (e : ℕ) → flip (code 0 e 0) ≡ code 0 e 1
flip-plus e = ap flip (sym (other-code e)) ∙ flip-flip (code 0 e 1)

pub start_is : (c : Primitives) (plan : ℕ → ℕ) (t k e : ℕ) → id_of (tiled_edge c plan t k e).start_node ≡ local_node c plan t (tail_of c (code 0 e 0))
start_is c plan t k e = reference_number t _ _ _ ∙ ap (λ x. local_node c plan t (tail_of c x)) (other-code e)

pub end_is : (c : Primitives) (plan : ℕ → ℕ) (t k e : ℕ) → id_of (tiled_edge c plan t k e).end_node ≡ local_node c plan t (tail_of c (code 0 e 1))
end_is c plan t k e = reference_number t _ _ _ ∙ ap (λ x. local_node c plan t (tail_of c x)) (flip-plus e)

pub dart_names : (c : Primitives) (plan : ℕ → ℕ) (t k d : ℕ) → (untiled_links c).has d ≡ true
    → names_node (local_node c plan t (tail_of c d)) (tiled_edge c plan t k (edge_in d)) ≡ true
dart_names c plan t k d h = (
    let n : ℕ = local_node c plan t (tail_of c d) in
    let row : EdgePrimitive = tiled_edge c plan t k (edge_in d) in
    elim (plus_or d (dart_is c d h)) [
      | inl e ↦
          or_left (eqb (id_of row.start_node) n) (eqb (id_of row.end_node) n)
          (eq-eqb _ _ (start_is c plan t k (edge_in d) ∙ ap (λ x. local_node c plan t (tail_of c x)) e))
      | inr e ↦
          or_right (eqb (id_of row.start_node) n) (eqb (id_of row.end_node) n)
          (eq-eqb _ _ (end_is c plan t k (edge_in d) ∙ ap (λ x. local_node c plan t (tail_of c x)) (sym (flip-plus (edge_in d)) ∙ ap flip e ∙ flip-flip d)))
    ])

-- a node of a tile is named there
pub node_named : (c : Primitives) (plan : ℕ → ℕ) (tiles : ℕ) → IsTileable c plan tiles → (t : ℕ) → is_made c plan tiles t ≡ true → (k : ℕ)
    → IsRowOf (length (present_nodes c plan t)) k → FirstRow (names_node k) (tiled_edges c plan t) absent_edge (first_edge_at k (tiled_edges c plan t))
node_named c plan tiles w t m k r = (
    let n : ℕ = kth (present_nodes c plan t) k 0 in
    let p : Passing (has_node c plan t) (length c.nodes) k n = passing (has_node c plan t) (no_node_zero c plan w.well_formed t) (length c.nodes) k r in
    let a : AtNode c plan t n = at_node c plan t n p.passes in
    let is : local_node c plan t (tail_of c a.dart) ≡ k = ap (local_node c plan t) a.tail ∙ p.ranks in
    let e : ℕ = edge_in a.dart in
    let j : ℕ = local_edge c plan t e in
    let row : IsRowOf (length (tiled_edges c plan t)) j =
    subst (λ xs. IsRowOf (length xs) j) (edges_are c plan tiles t m) (edge_row_in c plan tiles w t a.dart a.present) in
    let here : kth (tiled_edges c plan t) j absent_edge ≡ tiled_edge c plan t j e =
    edges_by_number c plan t e (edge_present c plan t a.dart a.present) (edge_to c a.dart (present_has c plan t a.dart a.present)) in
    let passes : names_node k (tiled_edge c plan t j e) ≡ true =
    subst (λ z. names_node z (tiled_edge c plan t j e) ≡ true) is (dart_names c plan t j a.dart (present_has c plan t a.dart a.present)) in
    first_row (names_node k) absent_edge (tiled_edges c plan t) (any_item (names_node k) (tiled_edges c plan t) j absent_edge row
    (ap (names_node k) here ∙ passes)))

pub nodes_numbered : (c : Primitives) (plan : ℕ → ℕ) (tiles : ℕ) → IsTileable c plan tiles → (t : ℕ) → is_made c plan tiles t ≡ true → (k : ℕ)
    → IsRowOf (node_count (tiled_library c plan tiles) t) k
    → IsNodeOf (tiled_library c plan tiles) t k (kth (tile_nodes (tiled_library c plan tiles) t) k absent_node)
nodes_numbered c plan tiles w t m k r = (
    let L : Library = tiled_library c plan tiles in
    let r' : IsRowOf (length (present_nodes c plan t)) k = subst (λ n. IsRowOf n k) (nodes_many c plan tiles t m) r in
    let f : FirstRow (names_node k) (tiled_edges c plan t) absent_edge (first_edge_at k (tiled_edges c plan t)) = node_named c plan tiles w t m k r' in
    let row : IsRowOf (edge_count L t) (first_edge_at k (tiled_edges c plan t)) =
    subst (λ xs. IsRowOf (length xs) (first_edge_at k (tiled_edges c plan t))) (sym (edges_are c plan tiles t m)) f.row in
    subst (IsNodeOf L t k) (sym (node_at c plan tiles t k m r'))
    (record { id = refl; first_edge = record { id = first_edge_at k (tiled_edges c plan t); is = refl; from_low = row.0; to_last = row.1 } }))

pub entities_numbered : (c : Primitives) (plan : ℕ → ℕ) (tiles : ℕ) → IsTileable c plan tiles → (t k : ℕ)
    → IsRowOf (length (tile_entities (tiled_library c plan tiles) t)) k
    → IsEntityOf (tiled_library c plan tiles) t k (kth (tile_entities (tiled_library c plan tiles) t) k absent_entity)
entities_numbered c plan tiles w t k r = (
    let L : Library = tiled_library c plan tiles in
    let a : EntityAt c plan tiles t k = entity_at c plan tiles t k r in
    let n : ℕ = kth (held_entities c plan t) k 0 in
    let f : ℕ = containing_face c n in
    let p : Passing (holds_entity c plan t) (length (tile_entities (untiled c) 0)) k n =
    passing (holds_entity c plan t) refl (length (tile_entities (untiled c) 0)) k a.there in
    let h : HeldFace c plan t f = held_is c plan t f (and_parts (leb 1 n) (holds_face c plan t f) p.passes).1 in
    let q : FaceHere c plan tiles t f = face_here c plan tiles w t f h.faces h.other h.planned in
    let b = q.from_two in
    subst (IsEntityOf L t k) (sym a.is) (record {
      id = refl;
      containing_face =
          record { id = local_face c plan t f; is = refl; from_low = omega arith; to_last = q.to_last };
    }))

pub all_numbered : MapLaws → OfTiled AllNumbered
all_numbered law c plan tiles w t h = (let m : is_made c plan tiles t ≡ true = made_from c plan tiles t h in record {
  edges = edges_numbered law c plan tiles w t m;
  faces = faces_numbered c plan tiles w t m;
  rings = rings_numbered c plan tiles w t m;
  nodes = nodes_numbered c plan tiles w t m;
  entities = entities_numbered c plan tiles w t;
  universe = universe_in c plan tiles t m;
})
