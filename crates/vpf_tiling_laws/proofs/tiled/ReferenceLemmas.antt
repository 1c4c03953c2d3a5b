-- What the edges of a tile name is there.
use Rattle.std.proofs.Common.{◌≡◌, ◌≢◌, ℕ, ◌+◌, ◌≤◌, true, cond, refl, sym, ap, ◌∙◌, subst, inl, inr, arith, ◌∷◌, length}
use Rattle.std.proofs.lemmas.Bool.{cases_eq, eq-eqb, ne_eqb}
use Rattle.vpf_darts.specs.Darts.{code, edge_in, flip}
use Rattle.vpf_prims.specs.Lists.{kth}
use Rattle.vpf_tiling.specs.Ranks.{rank, numbered}
use Rattle.vpf_prims.specs.Primitives.{Primitives, Library, untiled, cross, absent_edge, faces_in, rings_in, nodes_in, tile_edges, tile_rings, edge_count, face_count, ring_count, node_count, has_tables}
use Rattle.vpf_prims.specs.References.{plain}
use Rattle.vpf_tiling.specs.Presence.{untiled_links, next_of, tail_of, head_of, face_of, home, holds_face, is_present, has_edge, has_node, present_edges, present_nodes, held_faces, local_edge, local_node, local_face, tile_map}
use Rattle.vpf_tiling.specs.Tiles.{reference_to, tiled_wing, tiled_node, tiled_face, tiled_edge, tiled_edges, tiled_rings, numbered_ring, numbered_face, numbered_node, tiled_library, is_made}
use Rattle.vpf_prims.specs.Numbering.{IsRowOf, IsReference, IsFace, IsEdgeOf}
use Rattle.vpf_tiling.specs.Plans.{IsTileable}
use Rattle.vpf_tiling_laws.proofs.tiled.Facts.{MapLaws}
use Rattle.vpf_wing.specs.Inner.DartLaws.{IsThere, has-there}
use Rattle.vpf_tiling_laws.proofs.tiled.CopyLemmas.{made, tile_is, edges_are}
use Rattle.vpf_tiling_laws.proofs.tiled.SideLemmas.{side, inside, outside, universe, present_home, node_there}
use Rattle.vpf_tiling_laws.proofs.tiled.NameLemmas.{present_side}
use Rattle.vpf_tiling_laws.proofs.tiled.NextLemmas.{tile_arrives}
use Rattle.vpf_tiling_laws.proofs.tiled.RowLemmas.{item_numbered, rank_row, made_at, made_tables}
use Rattle.vpf_tiling_laws.proofs.tiled.PlaceLemmas.{Passing, passing}
use Rattle.vpf_tiling.specs.Inner.PresenceLaws.{Held, InFaces, edge_present, holds_held, in_faces, in_zero, no_edge_zero, no_node_zero, present_flip, present_has, source_next, tail_in_nodes, tail_next}
use Rattle.vpf_tiling.specs.Inner.RankLaws.{numbered_many}

-- a reference to a thing whose home is some tile
pub refers : (L : Library) (count : ℕ → ℕ) (t s here there : ℕ) → L.is_tiled ≡ true → IsRowOf (count t) here → has_tables L s ≡ true → IsRowOf (count s) there
    → IsReference L count t (reference_to t s here there)
refers L count t s here there tiled h m r = elim (cases_eq s t) [
  | inl e ↦ inl (record { id = here; is = ap (λ b. cond b (plain here) (cross here s there)) (eq-eqb s t e); from_low = h.0; to_last = h.1 })
  | inr ne ↦
      inr (record {
        id = here;
        tile = s;
        ext = there;
        is = ap (λ b. cond b (plain here) (cross here s there)) (ne_eqb s t ne);
        here = h;
        other = ne;
        there = m;
        from_low = r.0;
        to_last = r.1;
        of_tiles = tiled;
      })
]

pub edges_many : (c : Primitives) (plan : ℕ → ℕ) (tiles t : ℕ) → is_made c plan tiles t ≡ true
    → edge_count (tiled_library c plan tiles) t ≡ length (present_edges c plan t)
edges_many c plan tiles t m = ap length (edges_are c plan tiles t m) ∙ numbered_many (tiled_edge c plan t) 1 (present_edges c plan t)

pub nodes_many : (c : Primitives) (plan : ℕ → ℕ) (tiles t : ℕ) → is_made c plan tiles t ≡ true
    → node_count (tiled_library c plan tiles) t ≡ length (present_nodes c plan t)
nodes_many c plan tiles t m =
    ap (λ o. length (nodes_in o)) (tile_is c plan tiles t m) ∙ numbered_many (numbered_node c (tiled_edges c plan t)) 1 (present_nodes c plan t)

pub faces_many : (c : Primitives) (plan : ℕ → ℕ) (tiles t : ℕ) → is_made c plan tiles t ≡ true
    → face_count (tiled_library c plan tiles) t ≡ length (1 ∷ held_faces c plan t)
faces_many c plan tiles t m =
    ap (λ o. length (faces_in o)) (tile_is c plan tiles t m) ∙ numbered_many (numbered_face c (tiled_rings c plan t)) 1 (1 ∷ held_faces c plan t)

pub rings_are : (c : Primitives) (plan : ℕ → ℕ) (tiles t : ℕ) → is_made c plan tiles t ≡ true
    → tile_rings (tiled_library c plan tiles) t ≡ numbered numbered_ring (tiled_rings c plan t)
rings_are c plan tiles t m = ap rings_in (tile_is c plan tiles t m)

pub rings_many : (c : Primitives) (plan : ℕ → ℕ) (tiles t : ℕ) → is_made c plan tiles t ≡ true
    → ring_count (tiled_library c plan tiles) t ≡ length (tiled_rings c plan t)
rings_many c plan tiles t m = ap length (rings_are c plan tiles t m) ∙ numbered_many numbered_ring 1 (tiled_rings c plan t)

pub edge_to : (c : Primitives) (d : ℕ) → (untiled_links c).has d ≡ true → edge_in d ≤ length c.edges
edge_to c d h = (let i : IsThere (untiled c) d = has-there (untiled c) d h in subst (λ s. edge_in d ≤ edge_count (untiled c) s) (in_zero c d h).tile i.to_count)

-- the edge, the tail and the face of a present dart have rows in the tile
pub edge_row_in : (c : Primitives) (plan : ℕ → ℕ) (tiles : ℕ) → IsTileable c plan tiles → (t d : ℕ) → is_present c plan t d ≡ true
    → IsRowOf (edge_count (tiled_library c plan tiles) t) (local_edge c plan t (edge_in d))
edge_row_in c plan tiles w t d h =
    subst (λ n. IsRowOf n (local_edge c plan t (edge_in d))) (sym (edges_many c plan tiles t (made_at c plan tiles w t d h)))
    (rank_row (has_edge c plan t) (no_edge_zero c plan t) (length c.edges) (edge_in d) (edge_present c plan t d h) (edge_to c d (present_has c plan t d h)))

pub node_row_in : (c : Primitives) (plan : ℕ → ℕ) (tiles : ℕ) → IsTileable c plan tiles → (t d : ℕ) → is_present c plan t d ≡ true
    → IsRowOf (node_count (tiled_library c plan tiles) t) (local_node c plan t (tail_of c d))
node_row_in c plan tiles w t d h =
    subst (λ n. IsRowOf n (local_node c plan t (tail_of c d))) (sym (nodes_many c plan tiles t (made_at c plan tiles w t d h)))
    (rank_row (has_node c plan t) (no_node_zero c plan w.well_formed t) (length c.nodes) (tail_of c d) (node_there c plan t d h)
    (tail_in_nodes c w.well_formed d (present_has c plan t d h)).to_last)

-- the number of a face of the tile
pub record FaceHere (c : Primitives) (plan : ℕ → ℕ) (tiles t f : ℕ) : Type 0 where
  pub made : is_made c plan tiles t ≡ true
  pub from_two : 2 ≤ local_face c plan t f
  pub to_last : local_face c plan t f ≤ face_count (tiled_library c plan tiles) t

pub face_here : (c : Primitives) (plan : ℕ → ℕ) (tiles : ℕ) → IsTileable c plan tiles → (t f : ℕ) → InFaces c f → f ≢ 1 → plan f ≡ t → FaceHere c plan tiles t f
face_here c plan tiles w t f i ne p = (
    let a = i.from_one in
    let k : Held c plan t = record { face = f; from_two = omega arith; to_last = i.to_last; planned = p } in
    let m : is_made c plan tiles t ≡ true = made c plan tiles t w.plans k in
    let r : IsRowOf (length (held_faces c plan t)) (rank (holds_face c plan t) f + 1) =
    rank_row (holds_face c plan t) refl (length c.faces) f (holds_held c plan t k) i.to_last in
    let many : face_count (tiled_library c plan tiles) t ≡ length (1 ∷ held_faces c plan t) = faces_many c plan tiles t m in
    let b = r.1 in
    record { made = m; from_two = omega arith; to_last = omega arith })

pub node_ref : (c : Primitives) (plan : ℕ → ℕ) (tiles : ℕ) → IsTileable c plan tiles → (t d : ℕ) → is_present c plan t d ≡ true
    → IsReference (tiled_library c plan tiles) (node_count (tiled_library c plan tiles)) t (tiled_node c plan t d)
node_ref c plan tiles w t d h = (
    let L : Library = tiled_library c plan tiles in
    let y : ℕ = next_of c d in
    let s : ℕ = home c plan y in
    let hd : (untiled_links c).has d ≡ true = present_has c plan t d h in
    let py : is_present c plan s y ≡ true = present_home c plan tiles w y (source_next c w.well_formed d hd).has in
    refers L (node_count L) t s (local_node c plan t (head_of c d)) (local_node c plan s (head_of c d)) refl
    (node_row_in c plan tiles w t (flip d) (present_flip c plan t d h)) (made_tables c plan tiles s (made_at c plan tiles w s y py))
    (subst (λ n. IsRowOf (node_count L s) (local_node c plan s n)) (tail_next c w.well_formed d hd) (node_row_in c plan tiles w s y py)))

pub wing_ref : MapLaws → (c : Primitives) (plan : ℕ → ℕ) (tiles : ℕ) → IsTileable c plan tiles → (t d : ℕ) → is_present c plan t d ≡ true
    → IsReference (tiled_library c plan tiles) (edge_count (tiled_library c plan tiles)) t (tiled_wing c plan t d)
wing_ref law c plan tiles w t d h = (
    let L : Library = tiled_library c plan tiles in
    let y : ℕ = next_of c d in
    let s : ℕ = home c plan y in
    let hd : (untiled_links c).has d ≡ true = present_has c plan t d h in
    let py : is_present c plan s y ≡ true = present_home c plan tiles w y (source_next c w.well_formed d hd).has in
    let near : ℕ = (tile_map c plan t).next d in
    refers L (edge_count L) t s (local_edge c plan t (edge_in near)) (local_edge c plan s (edge_in y)) refl
    (edge_row_in c plan tiles w t near (tile_arrives law c plan tiles w t d h).here) (made_tables c plan tiles s (made_at c plan tiles w s y py))
    (edge_row_in c plan tiles w s y py))

pub plain_face : (c : Primitives) (plan : ℕ → ℕ) (t f : ℕ) → f ≡ 1 → tiled_face c plan t f ≡ plain 1
plain_face c plan t f e = rw (eq-eqb f 1 e) refl

pub held_face : (c : Primitives) (plan : ℕ → ℕ) (t f : ℕ) → f ≢ 1 → plan f ≡ t → tiled_face c plan t f ≡ plain (local_face c plan t f)
held_face c plan t f ne p = rw (ne_eqb f 1 ne, eq-eqb (plan f) t p) refl

pub away_face : (c : Primitives) (plan : ℕ → ℕ) (t f : ℕ) → f ≢ 1 → plan f ≢ t → tiled_face c plan t f ≡ cross 1 (plan f) (local_face c plan (plan f) f)
away_face c plan t f ne np = rw (ne_eqb f 1 ne, ne_eqb (plan f) t np) refl

-- the universe has a row in each tile that has tables
pub universe_in : (c : Primitives) (plan : ℕ → ℕ) (tiles t : ℕ) → is_made c plan tiles t ≡ true → 1 ≤ face_count (tiled_library c plan tiles) t
universe_in c plan tiles t m =
    (let many : face_count (tiled_library c plan tiles) t ≡ length (1 ∷ held_faces c plan t) = faces_many c plan tiles t m in omega arith)

pub face_ref : (c : Primitives) (plan : ℕ → ℕ) (tiles : ℕ) → IsTileable c plan tiles → (t d : ℕ) → is_present c plan t d ≡ true
    → IsFace (tiled_library c plan tiles) t (tiled_face c plan t (face_of c d))
face_ref c plan tiles w t d h = (
    let L : Library = tiled_library c plan tiles in
    let f : ℕ = face_of c d in
    let i : InFaces c f = in_faces c w.well_formed d (present_has c plan t d h) in
    let one : 1 ≤ face_count L t = universe_in c plan tiles t (made_at c plan tiles w t d h) in
    elim (side c plan t d h) [
      | inside ne p e ↦
          (let k : FaceHere c plan tiles t f = face_here c plan tiles w t f i ne p in let a = k.from_two in
          inl (record { id = local_face c plan t f; is = held_face c plan t f ne p; from_low = omega arith; to_last = k.to_last }))
      | outside ne np e ↦
          (let k : FaceHere c plan tiles (plan f) f = face_here c plan tiles w (plan f) f i ne refl in
          inr (
            record {
              id = 1;
              tile = plan f;
              ext = local_face c plan (plan f) f;
              is = away_face c plan t f ne np;
              here = (omega arith, one);
              other = np;
              there = made_tables c plan tiles (plan f) k.made;
              from_low = k.from_two;
              to_last = k.to_last;
              of_tiles = refl;
            },
            ap (λ r. r.id) (away_face c plan t f ne np),
          ))
      | universe e g ↦ inl (record { id = 1; is = plain_face c plan t f e; from_low = omega arith; to_last = one })
    ])

pub edges_numbered : MapLaws → (c : Primitives) (plan : ℕ → ℕ) (tiles : ℕ) → IsTileable c plan tiles → (t : ℕ) → is_made c plan tiles t ≡ true → (k : ℕ)
    → IsRowOf (edge_count (tiled_library c plan tiles) t) k
    → IsEdgeOf (tiled_library c plan tiles) t k (kth (tile_edges (tiled_library c plan tiles) t) k absent_edge)
edges_numbered law c plan tiles w t m k r = (
    let L : Library = tiled_library c plan tiles in
    let r' : IsRowOf (length (present_edges c plan t)) k = subst (λ n. IsRowOf n k) (edges_many c plan tiles t m) r in
    let e : ℕ = kth (present_edges c plan t) k 0 in
    let p : Passing (has_edge c plan t) (length c.edges) k e = passing (has_edge c plan t) (no_edge_zero c plan t) (length c.edges) k r' in
    let is : kth (tile_edges L t) k absent_edge ≡ tiled_edge c plan t k e =
    ap (λ xs. kth xs k absent_edge) (edges_are c plan tiles t m) ∙ item_numbered (tiled_edge c plan t) (present_edges c plan t) k absent_edge 0 r' in
    let plus : is_present c plan t (code 0 e 0) ≡ true = p.passes in
    let minus : is_present c plan t (code 0 e 1) ≡ true = present_side c plan t e 1 (inr refl) p.passes in
    subst (IsEdgeOf L t k) (sym is) (record {
      id = refl;
      start_node = node_ref c plan tiles w t (code 0 e 1) minus;
      end_node = node_ref c plan tiles w t (code 0 e 0) plus;
      right_face = face_ref c plan tiles w t (code 0 e 0) plus;
      left_face = face_ref c plan tiles w t (code 0 e 1) minus;
      right_edge = wing_ref law c plan tiles w t (code 0 e 0) plus;
      left_edge = wing_ref law c plan tiles w t (code 0 e 1) minus;
      mark = (w.well_formed.numbered.edges e (p.from_one, p.to_last)).mark;
    }))
