-- The rings of a face by their places among the rings of the coverage.
use Rattle.std.proofs.Common.{[], ◌≡◌, ℕ, suc, ◌+◌, ◌<◌, ◌≤◌, true, eqb, leb, ◌&&◌, sym, ap, ◌∙◌, arith, List, ◌∷◌, ◌++◌, length, map, get_or, take}
use Rattle.std.proofs.lemmas.Bool.{and_from, and_parts, leb-true, or_left}
use Rattle.std.proofs.lemmas.List.{get_or_default, length-map, take_more}
use Rattle.std.specs.Prelude.{All}
use Rattle.vpf_cutting.specs.Inner.Copies.Presence.{Presence, has, items_in}
use Rattle.vpf_prims.specs.Lists.{kth}
use Rattle.vpf_prims.specs.Numbering.{IsRowOf}
use Rattle.vpf_prims.specs.Inner.Owning.{NamesItsOwn}
use Rattle.vpf_prims.specs.Primitives.{Primitives, RingPrimitive, absent_ring, untiled}
use Rattle.vpf_prims.specs.References.{id_of}
use Rattle.vpf_tiling.specs.Presence.{has_edge, holds_face, is_within, face_of, local_edge, local_face, untiled_links}
use Rattle.vpf_tiling.specs.Inner.PresenceLaws.{edge_present}
use Rattle.vpf_tiling.specs.Tiles.{Ring, face_rings}
use Rattle.vpf_wing.specs.WellFormed.{IsWellFormed, StartsRing}
use Rattle.vpf_cut_rings.specs.Inner.Rings.{KeepsRings, ring_faces, ring_of}
use Rattle.vpf_cut_rings.specs.Inner.PlaceLaws.{kept_of_face, face_placed as face_at, kept_at, IsRingOfFace}

-- ---- those of a list that pass, by their places

-- ---- the rings of a face

-- the ring of a face in a tile, by its number in the coverage
abbrev pub ring_in : Primitives → (ℕ → ℕ) → ℕ → ℕ → ℕ → Ring
ring_in c plan t f k = record { face = local_face c plan t f; edge = local_edge c plan t (id_of (kth c.rings k absent_ring).start_edge) }

held_from_two : (c : Primitives) (plan : ℕ → ℕ) (t f : ℕ) → holds_face c plan t f ≡ true → 2 ≤ f
held_from_two c plan t f h =
    leb-true 2 f (and_parts (leb 2 f) (leb f (length c.faces)) (and_parts (leb 2 f && leb f (length c.faces)) (eqb (plan f) t) h).0).0

-- the rings of a face of a tile are those that are kept for it
pub rings_kept : (c : Primitives) (rings : Presence) → KeepsRings c rings → (plan : ℕ → ℕ) (t f : ℕ) → holds_face c plan t f ≡ true
    → face_rings c plan t f ≡ map (ring_in c plan t f) (items_in rings f)
rings_kept c rings k plan t f h =
    let low : 2 ≤ f = held_from_two c plan t f h in
    kept_of_face c rings k f (λ e. omega arith) (λ r. record { face = local_face c plan t f; edge = local_edge c plan t (id_of r.start_edge) })

-- a ring that is kept for a face
pub record IsKeptRing (c : Primitives) (plan : ℕ → ℕ) (t f k : ℕ) : Type 0 where
  pub row : IsRowOf (length c.rings) k
  pub edge : has_edge c plan t (id_of (kth c.rings k absent_ring).start_edge) ≡ true

pub kept_ring : (c : Primitives) → IsWellFormed c → (rings : Presence) → KeepsRings c rings → (plan : ℕ → ℕ) (t f : ℕ) → holds_face c plan t f ≡ true
    → (i : ℕ) → i < length (items_in rings f) → IsKeptRing c plan t f (get_or (items_in rings f) i 0)
kept_ring c w rings k plan t f h i lt =
    let r : ℕ = get_or (items_in rings f) i 0 in
    let two : 2 ≤ f = held_from_two c plan t f h in
    let of : IsRingOfFace c f r = kept_at c rings k f (λ e. omega arith) i lt in
    let d = w.cycles.ring_cycle r of.row in
    let s : StartsRing (untiled c) 0 r d.0 = d.1 in
    let within : is_within c plan t d.0 ≡ true =
    and_from ((untiled_links c).has d.0) (holds_face c plan t (face_of c d.0)) s.dart.has (ap (holds_face c plan t) (s.face ∙ of.face) ∙ h) in
    record {
      row = of.row;
      edge = ap (has_edge c plan t) (sym s.edge) ∙ edge_present c plan t d.0 (or_left (is_within c plan t d.0) _ within);
    }

-- ---- as they are made

-- the face of one more ring
pub ring_faces_more : (c : Primitives) (k : ℕ) → k < length c.rings → (before after : List ℕ) (x : ℕ) → after ≡ before ++ x ∷ []
    → x ≡ id_of (kth c.rings (k + 1) absent_ring).face → before ≡ take k (ring_faces c) → after ≡ take (k + 1) (ring_faces c)
ring_faces_more c k h before after x a is was =
    let many : length (ring_faces c) ≡ length c.rings = length-map c.rings (λ (r : RingPrimitive). id_of r.face) in
    let one : k + 1 ≡ suc k = omega arith in
    a ∙ ap (λ v. v ++ x ∷ []) was
    ∙ ap (λ v. take k (ring_faces c) ++ v ∷ []) (is ∙ ap (λ j. id_of (kth c.rings j absent_ring).face) one ∙ sym (face_at c (suc k)))
    ∙ sym (take_more (ring_faces c) k 0 (omega arith))

pub faces_within : (c : Primitives) → NamesItsOwn c → All (λ f. f ≤ length c.faces) (ring_faces c)
faces_within c own k d h =
    let many : length (ring_faces c) ≡ length c.rings = length-map c.rings (λ (r : RingPrimitive). id_of r.face) in
    let row : IsRowOf (length c.rings) (suc k) = (omega arith, omega arith) in
    let face : id_of (kth c.rings (suc k) absent_ring).face ≤ length c.faces = (own.rings (suc k) row).face.1 in
    let is : get_or (ring_faces c) k d ≡ id_of (kth c.rings (suc k) absent_ring).face = get_or_default (ring_faces c) k d 0 h ∙ face_at c (suc k) in
    omega arith

pub one_ring : (c : Primitives) (plan : ℕ → ℕ) (t f k number edge start : ℕ) → number ≡ local_face c plan t f → edge ≡ local_edge c plan t start
    → start ≡ id_of (kth c.rings k absent_ring).start_edge → ring_of (record { face = number; edge = edge }) ≡ ring_in c plan t f k
one_ring c plan t f k number edge start n e s =
    let made : ℕ → ℕ → Ring = λ (a : ℕ). λ (b : ℕ). record { face = a; edge = b } in
    ap (λ a. made a edge) n ∙ ap (made (local_face c plan t f)) (e ∙ ap (local_edge c plan t) s)
