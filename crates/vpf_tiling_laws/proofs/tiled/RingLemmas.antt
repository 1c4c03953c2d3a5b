-- The rings and the nodes of the tiles of a tiled library.
use Rattle.std.proofs.lemmas.List.{append_assoc, append-nil}
use Rattle.std.proofs.lemmas.Grind.{flat_map-append}
use Rattle.std.proofs.Common.{◌≡◌, ℕ, zero, suc, ◌+◌, ◌^◌, ◌<◌, ◌≤◌, Bool, true, eqb, refl, sym, ap, ◌∙◌, subst, inl, inr, arith, List, [], ◌∷◌, ◌++◌, length, get_or, map}
use Rattle.std.specs.Prelude.{filter, flat_map}
use Rattle.std.proofs.lemmas.Bool.{cases_Bool, or_cases, eqb-true}
use Rattle.vpf_darts.specs.Darts.{code, edge_in, sign_in}
use Rattle.vpf_prims.specs.Lists.{kth, first_item}
use Rattle.vpf_tiling.specs.Ranks.{rank, up_to, leasts}
use Rattle.vpf_prims.specs.Primitives.{Primitives, absent_edge, absent_ring, absent_node, tile_rings, tile_nodes, ring_count}
use Rattle.vpf_prims.specs.References.{id_of}
use Rattle.vpf_wing.specs.Links.{DartLinks, tail_node}
use Rattle.vpf_tiling.specs.Presence.{tail_of, face_of, holds_face, is_present, has_edge, present_edges, present_nodes, held_faces, local_edge, local_node, copy_in, tile_map}
use Rattle.vpf_tiling.specs.Tiles.{Ring, tiled_edge, tiled_edges, outer_darts, face_rings, tiled_rings, numbered_ring, first_edge_at, tiled_library, is_made}
use Rattle.vpf_prims.specs.Numbering.{IsRowOf}
use Rattle.vpf_wing.specs.WellFormed.{StartsRing, IsAtNode}
use Rattle.vpf_tiling.specs.Plans.{IsTileable}
use Rattle.vpf_tiling_laws.proofs.tiled.Parts.{HasLinks, OfTiled, RingsStart, RingsTogether, FirstRings, FirstEdges}
use Rattle.vpf_wing.specs.Inner.DartLaws.{code-sign, code-edge}
use Rattle.std.proofs.lemmas.List.Elements.{filter-append}
use Rattle.vpf_tiling_laws.proofs.tiled.CopyLemmas.{CopyAt, copy_at, copies_have_links}
use Rattle.vpf_tiling_laws.proofs.tiled.FollowLemmas.{library_links, tail_at}
use Rattle.vpf_tiling_laws.proofs.tiled.NameLemmas.{present_side}
use Rattle.vpf_tiling_laws.proofs.tiled.NextLemmas.{face_id}
use Rattle.vpf_tiling_laws.proofs.tiled.RowLemmas.{item_numbered, made_from}
use Rattle.vpf_tiling_laws.proofs.tiled.PlaceLemmas.{all_item, Passing, passing, FirstRow, first_numbered}
use Rattle.vpf_tiling_laws.proofs.tiled.ReferenceLemmas.{faces_many, rings_many, rings_are, nodes_many}
use Rattle.vpf_tiling_laws.proofs.tiled.TableLemmas.{RingDart, ring_darts, no_one, ring_at, face_at, node_at, names_node, start_is, end_is, node_named}
use Rattle.vpf_tiling.specs.Inner.PresenceLaws.{no_edge_zero}
use Rattle.vpf_tiling.specs.Inner.RankLaws.{filter_none, filter_one, numbered_many, rank-step, up-last, weight}

-- a copy of a ring's dart starts the ring
pub starts_at : (c : Primitives) (plan : ℕ → ℕ) (tiles : ℕ) → IsTileable c plan tiles → (t k : ℕ) → is_made c plan tiles t ≡ true
    → IsRowOf (ring_count (tiled_library c plan tiles) t) k → (d : ℕ) → is_present c plan t d ≡ true
    → local_edge c plan t (edge_in d) ≡ (kth (tiled_rings c plan t) k no_one).edge
    → face_id c plan t (face_of c d) ≡ (kth (tiled_rings c plan t) k no_one).face → StartsRing (tiled_library c plan tiles) t k (copy_in c plan t d)
starts_at c plan tiles w t k m r d p ee ef = (
    let r' : IsRowOf (length (tiled_rings c plan t)) k = subst (λ n. IsRowOf n k) (rings_many c plan tiles t m) r in
    let a : CopyAt c plan tiles t d = copy_at c plan tiles w t d p in
    let q : HasLinks c plan tiles t d = copies_have_links c plan tiles w t d p in
    record {
      row = r;
      dart = record { has = a.has; tile = a.tile };
      edge = a.edge ∙ ee ∙ sym (ap (λ row. id_of row.start_edge) (ring_at c plan tiles t k m r'));
      face = ap (λ z. z.id) q.face ∙ ef ∙ sym (ap (λ row. id_of row.face) (ring_at c plan tiles t k m r'));
    })

pub rings_start : OfTiled RingsStart
rings_start c plan tiles w t h k r = (
    let m : is_made c plan tiles t ≡ true = made_from c plan tiles t h in
    let r' : IsRowOf (length (tiled_rings c plan t)) k = subst (λ n. IsRowOf n k) (rings_many c plan tiles t m) r in
    let d : RingDart c plan t (kth (tiled_rings c plan t) k no_one) =
    all_item (RingDart c plan t) (tiled_rings c plan t) k no_one (ring_darts c plan w.well_formed t) r' in
    (copy_in c plan t d.dart, starts_at c plan tiles w t k m r d.dart d.present d.edge d.face))

-- the faces of the rings climb
abbrev pub Climbs : ℕ → List Ring → Type 0
Climbs low [] = Unit {0}
Climbs low (x ∷ xs) = (low ≤ x.face) × Climbs x.face xs

pub climbs_lower : (low high : ℕ) (xs : List Ring) → low ≤ high → Climbs high xs → Climbs low xs
climbs_lower low high [] h k = tt
climbs_lower low high (x ∷ xs) h k = (let a = k.0 in (omega arith, k.1))

pub climbs_same : {X : Type 0} → (low n : ℕ) (g : X → ℕ) (xs : List X) (ys : List Ring) → low ≤ n → Climbs n ys
    → Climbs low (map (λ x. record { face = n; edge = g x }) xs ++ ys)
climbs_same low n g [] ys h k = climbs_lower low n ys h k
climbs_same low n g (x ∷ xs) ys h k = (h, climbs_same n n g xs ys (omega arith) k)

pub face_rings_climb : (c : Primitives) (plan : ℕ → ℕ) (t n : ℕ) (zs : List Ring) → Climbs (rank (holds_face c plan t) (suc n) + 1) zs
    → Climbs 1 (flat_map (face_rings c plan t) (filter (holds_face c plan t) (up_to n)) ++ zs)
face_rings_climb c plan t zero zs k = climbs_lower 1 _ zs (omega arith) k
face_rings_climb c plan t (suc n) zs k = (
    let p : ℕ → Bool = holds_face c plan t in
    let F : ℕ → List Ring = face_rings c plan t in
    let a : List ℕ = filter p (up_to n) in
    let b : List ℕ = filter p (suc n ∷ []) in
    let whole : flat_map F (filter p (up_to (suc n))) ++ zs ≡ flat_map F a ++ (flat_map F b ++ zs) =
    ap (λ z. flat_map F z ++ zs) (ap (filter p) (up-last n) ∙ filter-append p (up_to n) (suc n ∷ [])) ∙ ap (λ z. z ++ zs) (flat_map-append F a b)
    ∙ append_assoc (flat_map F a) (flat_map F b) zs in
    let after : Climbs (rank p (suc n) + 1) (flat_map F b ++ zs) = elim (cases_Bool (p (suc n))) [
      | inl h ↦ (
          let e : rank p (suc (suc n)) ≡ 1 + rank p (suc n) = rank-step p (suc n) 1 (ap weight h) in
          let up : rank p (suc (suc n)) + 1 ≡ rank p (suc n) + 2 = omega arith in
          let is : flat_map F b ++ zs ≡ F (suc n) ++ zs = ap (λ z. flat_map F z ++ zs) (filter_one p (suc n) h) ∙ ap (λ z. z ++ zs) (append-nil (F (suc n))) in
          subst (Climbs (rank p (suc n) + 1)) (sym is) (climbs_same (rank p (suc n) + 1) (rank p (suc n) + 2) (λ r. local_edge c plan t (id_of r.start_edge))
          (filter (λ r. eqb (id_of r.face) (suc n)) c.rings) zs (omega arith) (subst (λ z. Climbs z zs) up k)))
      | inr h ↦ (
          let e : rank p (suc (suc n)) ≡ 0 + rank p (suc n) = rank-step p (suc n) 0 (ap weight h) in
          let up : rank p (suc (suc n)) + 1 ≡ rank p (suc n) + 1 = omega arith in
          let is : flat_map F b ++ zs ≡ zs = ap (λ z. flat_map F z ++ zs) (filter_none p (suc n) h) in
          subst (Climbs (rank p (suc n) + 1)) (sym is) (subst (λ z. Climbs z zs) up k))
    ] in
    subst (Climbs 1) (sym whole) (face_rings_climb c plan t n (flat_map F b ++ zs) after))

pub rings_climb : (c : Primitives) (plan : ℕ → ℕ) (t : ℕ) → Climbs 1 (tiled_rings c plan t)
rings_climb c plan t =
    climbs_same 1 1 (λ d. local_edge c plan t (edge_in d)) (leasts (tile_map c plan t).next (outer_darts c plan t))
    (flat_map (face_rings c plan t) (held_faces c plan t)) (omega arith)
    (subst (Climbs 1) (append-nil (flat_map (face_rings c plan t) (held_faces c plan t))) (face_rings_climb c plan t (length c.faces) [] tt))

pub climbs_from : (low : ℕ) (xs : List Ring) (j : ℕ) (d : Ring) → Climbs low xs → j < length xs → low ≤ (get_or xs j d).face
climbs_from low [] j d k h = absurd (omega arith)
climbs_from low (x ∷ xs) zero d k h = k.0
climbs_from low (x ∷ xs) (suc j) d k h =
    (let a = k.0 in let b : x.face ≤ (get_or xs j d).face = climbs_from x.face xs j d k.1 (omega (arith, h)) in omega arith)

pub climbs_get : (low : ℕ) (xs : List Ring) (i j : ℕ) (d : Ring) → Climbs low xs → i ≤ j → j < length xs → (get_or xs i d).face ≤ (get_or xs j d).face
climbs_get low [] i j d k le h = absurd (omega arith)
climbs_get low (x ∷ xs) zero zero d k le h = omega arith
climbs_get low (x ∷ xs) zero (suc j) d k le h = climbs_from x.face xs j d k.1 (omega (arith, h))
climbs_get low (x ∷ xs) (suc i) zero d k le h = absurd (omega arith)
climbs_get low (x ∷ xs) (suc i) (suc j) d k le h = climbs_get x.face xs i j d k.1 (omega (arith, le)) (omega (arith, h))

pub climbs_item : (xs : List Ring) (i j : ℕ) (d : Ring) → Climbs 1 xs → 1 ≤ i → i ≤ j → j ≤ length xs → (kth xs i d).face ≤ (kth xs j d).face
climbs_item xs zero j d k one le h = absurd (omega arith)
climbs_item xs (suc i) zero d k one le h = absurd (omega arith)
climbs_item xs (suc i) (suc j) d k one le h = climbs_get 1 xs i j d k (omega (arith, le)) (omega (arith, h))

pub rings_together : OfTiled RingsTogether
rings_together c plan tiles w t h p q r pq qr rp rr e = (
    let m : is_made c plan tiles t ≡ true = made_from c plan tiles t h in
    let many : ring_count (tiled_library c plan tiles) t ≡ length (tiled_rings c plan t) = rings_many c plan tiles t m in
    let xs : List Ring = tiled_rings c plan t in
    let a = rp.0 in
    let b = rr.1 in
    let at : (k : ℕ) → IsRowOf (length xs) k → id_of (kth (tile_rings (tiled_library c plan tiles) t) k absent_ring).face ≡ (kth xs k no_one).face =
    λ k s. ap (λ row. id_of row.face) (ring_at c plan tiles t k m s) in
    let fp = at p (omega arith, omega arith) in
    let fq = at q (omega arith, omega arith) in
    let fr = at r (omega arith, omega arith) in
    let one : (kth xs p no_one).face ≤ (kth xs q no_one).face = climbs_item xs p q no_one (rings_climb c plan t) a pq (omega arith) in
    let two : (kth xs q no_one).face ≤ (kth xs r no_one).face = climbs_item xs q r no_one (rings_climb c plan t) (omega arith) qr (omega arith) in
    omega arith)

pub first_rings : OfTiled FirstRings
first_rings c plan tiles w t h f r = (
    let m : is_made c plan tiles t ≡ true = made_from c plan tiles t h in
    let r' : IsRowOf (length (1 ∷ held_faces c plan t)) f = subst (λ n. IsRowOf n f) (faces_many c plan tiles t m) r in
    ap (λ row. id_of row.ring_ptr) (face_at c plan tiles t f m r')
    ∙ sym (ap (first_item (λ row. eqb (id_of row.face) f)) (rings_are c plan tiles t m)
    ∙ first_numbered numbered_ring (λ row. eqb (id_of row.face) f) (λ x. eqb x.face f) (λ j x. refl) 1 1 (tiled_rings c plan t)))

pub first_edges : OfTiled FirstEdges
first_edges c plan tiles w t h n r = (
    let m : is_made c plan tiles t ≡ true = made_from c plan tiles t h in
    let C : DartLinks = library_links c plan tiles in
    let r' : IsRowOf (length (present_nodes c plan t)) n = subst (λ k. IsRowOf k n) (nodes_many c plan tiles t m) r in
    let k : ℕ = first_edge_at n (tiled_edges c plan t) in
    let f : FirstRow (names_node n) (tiled_edges c plan t) absent_edge k = node_named c plan tiles w t m n r' in
    let row : IsRowOf (length (present_edges c plan t)) k = subst (λ z. IsRowOf z k) (numbered_many (tiled_edge c plan t) 1 (present_edges c plan t)) f.row in
    let e : ℕ = kth (present_edges c plan t) k 0 in
    let p : Passing (has_edge c plan t) (length c.edges) k e = passing (has_edge c plan t) (no_edge_zero c plan t) (length c.edges) k row in
    let here : kth (tiled_edges c plan t) k absent_edge ≡ tiled_edge c plan t k e =
    item_numbered (tiled_edge c plan t) (present_edges c plan t) k absent_edge 0 row in
    let names : names_node n (tiled_edge c plan t k e) ≡ true = sym (ap (names_node n) here) ∙ f.passes in
    let is : id_of (kth (tile_nodes (tiled_library c plan tiles) t) n absent_node).first_edge ≡ k =
    ap (λ z. id_of z.first_edge) (node_at c plan tiles t n m r') in
    let to = p.to_last in
    let few : length c.edges < 2 ^ 24 = w.few in
    let ok : e < 2 ^ 32 = omega arith in
    let side : (s : ℕ) → s < 2 → is_present c plan t (code 0 e s) ≡ true → tail_node C (code t k s) ≡ local_node c plan t (tail_of c (code 0 e s)) =
    λ s lt ps. (
    let copy : copy_in c plan t (code 0 e s) ≡ code t k s =
    ap (λ z. code t (local_edge c plan t z) (sign_in (code 0 e s))) (code-edge 0 e s ok lt) ∙ ap (λ z. code t z (sign_in (code 0 e s))) p.ranks
    ∙ ap (code t k) (code-sign 0 e s lt) in
    ap (tail_node C) (sym copy) ∙ tail_at c plan tiles w t (code 0 e s) ps) in
    subst (λ z.
    IsAtNode C t z n) (sym is) (elim (or_cases (eqb (id_of (tiled_edge c plan t k e).start_node) n) (eqb (id_of (tiled_edge c plan t k e).end_node) n)
    names) [
      | inl a ↦ inl (side 0 (omega arith) p.passes ∙ sym (start_is c plan t k e) ∙ eqb-true _ n a)
      | inr b ↦ inr (side 1 (omega arith) (present_side c plan t e 1 (inr refl) p.passes) ∙ sym (end_is c plan t k e) ∙ eqb-true _ n b)
    ]))
