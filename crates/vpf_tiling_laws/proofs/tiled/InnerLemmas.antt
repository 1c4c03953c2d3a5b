-- The rings of the faces of a tile go round cycles of their own.
use Rattle.std.proofs.Common.{◌≡◌, ◌≢◌, ℕ, zero, suc, true, eqb, refl, sym, ap, ◌∙◌, subst, arith}
use Rattle.std.proofs.lemmas.Bool.{and_from, eqb-true}
use Rattle.vpf_darts.specs.Darts.{edge_in}
use Rattle.vpf_prims.specs.Primitives.{Primitives, RingPrimitive, absent_ring}
use Rattle.vpf_prims.specs.References.{id_of}
use Rattle.vpf_wing.specs.Walks.{Steps, LeadsTo}
use Rattle.vpf_tiling.specs.Presence.{untiled_links, next_of, face_of, holds_face, is_within, is_present, has_edge, local_edge, local_face, tile_map}
use Rattle.vpf_tiling.specs.Tiles.{Ring, face_rings}
use Rattle.vpf_wing.specs.WellFormed.{IsWellFormed}
use Rattle.vpf_tiling.specs.Plans.{IsTileable}
use Rattle.vpf_tiling_laws.proofs.tiled.Facts.{MapLaws}
use Rattle.vpf_tiling_laws.proofs.tiled.SideLemmas.{rank_apart, same_plus}
use Rattle.vpf_tiling_laws.proofs.tiled.FollowLemmas.{tile_next}
use Rattle.vpf_tiling_laws.proofs.tiled.NextLemmas.{face_id, id_within, id_apart, Arrives, tile_arrives}
use Rattle.vpf_tiling_laws.proofs.tiled.RoundLemmas.{within_present, within_face}
use Rattle.vpf_tiling_laws.proofs.tiled.TableLemmas.{SourceRing, source_ring, HeldFace}
use Rattle.vpf_tiling_laws.proofs.tiled.WalkLemmas.{steps_keep, Pairs, pairs_from, pairs_passing}
use Rattle.vpf_tiling.specs.Inner.PresenceLaws.{edge_present, face_next, in_faces, in_zero, present_has, source_next}

-- a present dart that a ring of the tile may start with
pub record StartOf (c : Primitives) (plan : ℕ → ℕ) (t : ℕ) (r : Ring) (d : ℕ) : Type 0 where
  pub present : is_present c plan t d ≡ true
  pub edge : local_edge c plan t (edge_in d) ≡ r.edge
  pub face : face_id c plan t (face_of c d) ≡ r.face

-- two rings go round no one cycle
abbrev pub Apart : Primitives → (ℕ → ℕ) → ℕ → Ring → Ring → Type 0
Apart c plan t x y =
    (z d e : ℕ) → is_present c plan t z ≡ true → StartOf c plan t x d → StartOf c plan t y e → LeadsTo (tile_map c plan t).next z d
    → LeadsTo (tile_map c plan t).next z e → ⊥

-- the next in a tile keeps the local face
pub record Keeps (c : Primitives) (plan : ℕ → ℕ) (t f z : ℕ) : Type 0 where
  pub present : is_present c plan t z ≡ true
  pub face : face_id c plan t (face_of c z) ≡ f

pub keeps_next : MapLaws → (c : Primitives) (plan : ℕ → ℕ) (tiles : ℕ) → IsTileable c plan tiles → (t f z : ℕ) → Keeps c plan t f z
    → Keeps c plan t f ((tile_map c plan t).next z)
keeps_next law c plan tiles w t f z k =
    (let a : Arrives c plan t _ (face_id c plan t (face_of c z)) ((tile_map c plan t).next z) = tile_arrives law c plan tiles w t z k.present in
    record { present = a.here; face = a.side ∙ k.face })

pub same_face : MapLaws → (c : Primitives) (plan : ℕ → ℕ) (tiles : ℕ) → IsTileable c plan tiles → (t z d : ℕ) → is_present c plan t z ≡ true
    → LeadsTo (tile_map c plan t).next z d → face_id c plan t (face_of c d) ≡ face_id c plan t (face_of c z)
same_face law c plan tiles w t z d p q =
    (steps_keep (tile_map c plan t).next (Keeps c plan t (face_id c plan t (face_of c z))) (keeps_next law c plan tiles w t (face_id c plan t (face_of c z)))
    q.0 z d (record { present = p; face = refl }) q.1).face

-- rings of two faces are apart
pub apart_faces : MapLaws → (c : Primitives) (plan : ℕ → ℕ) (tiles : ℕ) → IsTileable c plan tiles → (t : ℕ) (x y : Ring) → x.face ≢ y.face → Apart c plan t x y
apart_faces law c plan tiles w t x y ne z d e p a b q r =
    ne (sym a.face ∙ same_face law c plan tiles w t z d p q ∙ sym (same_face law c plan tiles w t z e p r) ∙ b.face)

-- a dart with the local face of a face of the tile has that face
pub face_back : (c : Primitives) (plan : ℕ → ℕ) → IsWellFormed c → (t f d : ℕ) → HeldFace c plan t f → (untiled_links c).has d ≡ true
    → face_id c plan t (face_of c d) ≡ local_face c plan t f → face_of c d ≡ f
face_back c plan w t f d h hd e =
    sym (id_apart c plan t f (face_of c d) h.faces (in_faces c w d hd) h.other h.planned (id_within c plan t f h.other h.planned ∙ sym e))

pub held_within : (c : Primitives) (plan : ℕ → ℕ) (t f d : ℕ) → HeldFace c plan t f → (untiled_links c).has d ≡ true → face_of c d ≡ f
    → is_within c plan t d ≡ true
held_within c plan t f d h hd e = and_from ((untiled_links c).has d) (holds_face c plan t (face_of c d)) hd (ap (holds_face c plan t) e ∙ h.holds)

-- round a face of the tile the nexts there are those of the coverage
pub plain_steps : MapLaws → (c : Primitives) (plan : ℕ → ℕ) (tiles : ℕ) → IsTileable c plan tiles → (t k z d : ℕ) → is_within c plan t z ≡ true
    → Steps (tile_map c plan t).next k z d → Steps (next_of c) k z d
plain_steps law c plan tiles w t zero z d i q = q
plain_steps law c plan tiles w t (suc k) z d i q = (
    let h : is_present c plan t z ≡ true = within_present c plan t z i in
    let hz : (untiled_links c).has z ≡ true = present_has c plan t z h in
    let i' : is_within c plan t (next_of c z) ≡ true =
    within_face c plan t z (next_of c z) i (source_next c w.well_formed z hz).has (face_next c w.well_formed z hz) in
    let is : (tile_map c plan t).next z ≡ next_of c z = tile_next law c plan tiles w t z h (within_present c plan t (next_of c z) i') in
    plain_steps law c plan tiles w t k (next_of c z) d i' (subst (λ v. Steps (tile_map c plan t).next k v d) is q))

-- a dart that a ring of the coverage may start with
pub record SourceStart (c : Primitives) (r : RingPrimitive) (d : ℕ) : Type 0 where
  pub has : (untiled_links c).has d ≡ true
  pub edge : edge_in d ≡ id_of r.start_edge
  pub face : face_of c d ≡ id_of r.face

-- two rings of the coverage
pub record SourceApart (c : Primitives) (r s : RingPrimitive) : Type 0 where
  pub one : SourceRing c r
  pub two : SourceRing c s
  pub apart : (z d e : ℕ) → (untiled_links c).has z ≡ true → SourceStart c r d → SourceStart c s e → LeadsTo (next_of c) z d → LeadsTo (next_of c) z e → ⊥

pub source_apart : (c : Primitives) → IsWellFormed c → Pairs (SourceApart c) c.rings
source_apart c w = pairs_from (SourceApart c) c.rings absent_ring (λ i j a b. record {
  one = source_ring c w i (omega (arith, a, b));
  two = source_ring c w j b;
  apart = λ z d e hz sd se q r. (
      let same : suc i ≡ suc j = w.cycles.ring_once (suc i) (suc j) z (in_zero c z hz)
      (record { start = d; starts = record { row = (omega arith, omega (arith, a, b)); dart = in_zero c d sd.has; edge = sd.edge; face = sd.face }; on = q })
      (record { start = e; starts = record { row = (omega arith, omega (arith, b)); dart = in_zero c e se.has; edge = se.edge; face = se.face }; on = r }) in
      omega (arith, same, a));
})

abbrev pub face_ring : Primitives → (ℕ → ℕ) → ℕ → ℕ → RingPrimitive → Ring
face_ring c plan t f r = record { face = local_face c plan t f; edge = local_edge c plan t (id_of r.start_edge) }

pub start_back : (c : Primitives) (plan : ℕ → ℕ) → IsWellFormed c → (t f : ℕ) (r : RingPrimitive) (d : ℕ) → HeldFace c plan t f → id_of r.face ≡ f
    → SourceRing c r → StartOf c plan t (face_ring c plan t f r) d → SourceStart c r d
start_back c plan w t f r d h e k s = (
    let hd : (untiled_links c).has d ≡ true = present_has c plan t d s.present in
    let pk : is_present c plan t k.dart ≡ true = within_present c plan t k.dart (held_within c plan t f k.dart h k.has (k.face ∙ e)) in
    let edges : edge_in d ≡ edge_in k.dart =
    rank_apart (has_edge c plan t) (edge_in d) (edge_in k.dart) (edge_present c plan t d s.present) (edge_present c plan t k.dart pk)
    (same_plus _ _ 1 (s.edge ∙ ap (local_edge c plan t) (sym k.edge))) in
    record { has = hd; edge = edges ∙ k.edge; face = face_back c plan w t f d h hd s.face ∙ sym e })

pub inner_apart : MapLaws → (c : Primitives) (plan : ℕ → ℕ) (tiles : ℕ) → IsTileable c plan tiles → (t f : ℕ) → HeldFace c plan t f
    → Pairs (Apart c plan t) (face_rings c plan t f)
inner_apart law c plan tiles w t f h =
    pairs_passing (Apart c plan t) (SourceApart c) (face_ring c plan t f) (λ r. eqb (id_of r.face) f) c.rings (source_apart c w.well_formed)
    (λ r s pr ps q z d e pz sd se zd ze. (
    let hz : (untiled_links c).has z ≡ true = present_has c plan t z pz in
    let fz : face_of c z ≡ f = face_back c plan w.well_formed t f z h hz (sym (same_face law c plan tiles w t z d pz zd) ∙ sd.face) in
    let iz : is_within c plan t z ≡ true = held_within c plan t f z h hz fz in
    q.apart z d e hz (start_back c plan w.well_formed t f r d h (eqb-true _ f pr) q.one sd)
    (start_back c plan w.well_formed t f s e h (eqb-true _ f ps) q.two se)
    (zd.0, plain_steps law c plan tiles w t zd.0 z d iz zd.1) (ze.0, plain_steps law c plan tiles w t ze.0 z e iz ze.1)))
