-- What the edges and rings of a tile name has small numbers, in this tile and in others.
use Rattle.std.proofs.Common.{[], ◌≡◌, ◌≢◌, ℕ, ◌+◌, ◌<◌, ◌≤◌, ◌^◌, Bool, true, false, cond, eqb, Some, List, ◌∷◌, length, map, refl, sym, subst, inl, inr, arith}
use Rattle.std.specs.Prelude.{IsTrue, flat_map}
use Rattle.std.specs.List.{AllByRecursion}
use Rattle.std.proofs.lemmas.Bool.{cases_eq, eq-eqb, lt-ltb, ne_eqb}
use Rattle.vpf_triplet.specs.declared.triplets.Triplet.{Triplet}
use Rattle.vpf_triplet.specs.Canonical.{HasSmallParts}
use Rattle.vpf_triplet.specs.Reading.{is_small}
use Rattle.vpf_darts.specs.Darts.{code, edge_in, flip}
use Rattle.vpf_prims.specs.Primitives.{EdgePrimitive, Primitives, cross, untiled}
use Rattle.vpf_prims.specs.References.{id_of, plain}
use Rattle.vpf_wing.specs.Inner.DartLaws.{flip-flip, flip-has}
use Rattle.vpf_wing.specs.WellFormed.{IsWellFormed}
use Rattle.vpf_tiling.specs.Plans.{IsTileable}
use Rattle.vpf_tiling.specs.Presence.{face_of, has_edge, head_of, held_faces, home, local_edge, local_face, local_node, next_of, tile_map, untiled_links}
use Rattle.vpf_tiling.specs.Inner.PresenceLaws.{InFaces, in_faces, other-code, present_has, source_next}
use Rattle.vpf_tiling.specs.Tiles.{Ring, face_rings, outer_rings, reference_to, tiled_edge, tiled_face, tiled_node, tiled_rings, tiled_wing}
use Rattle.vpf_primitive_tables.proofs.tile_writing.SmallNumbers.{local_edge_few, local_face_few, local_node_few}
use Rattle.vpf_base.proofs.Lists.{all_joined, all_flat}

-- a coverage that may be tiled, whose things and tiles have small numbers
pub record IsFew (c : Primitives) (plan : ℕ → ℕ) (tiles : ℕ) : Type 0 where
  pub tileable : IsTileable c plan tiles
  pub faces : length c.faces < 2 ^ 24
  pub nodes : length c.nodes < 2 ^ 24
  pub last : tiles < 2 ^ 31

-- ---- numbers

pub edge_small : (c : Primitives) (plan : ℕ → ℕ) (tiles : ℕ) → IsFew c plan tiles → (t e : ℕ) → local_edge c plan t e < 2 ^ 31
edge_small c plan tiles few t e =
    let most : length c.edges < 2 ^ 24 = few.tileable.few in
    let up : local_edge c plan t e ≤ length c.edges + 2 = local_edge_few c plan t e in
    omega arith

node_small : (c : Primitives) (plan : ℕ → ℕ) (tiles : ℕ) → IsFew c plan tiles → (t n : ℕ) → local_node c plan t n < 2 ^ 31
node_small c plan tiles few t n =
    let most : length c.nodes < 2 ^ 24 = few.nodes in
    let up : local_node c plan t n ≤ length c.nodes + 2 = local_node_few c plan few.tileable.well_formed t n in
    omega arith

pub face_small : (c : Primitives) (plan : ℕ → ℕ) (tiles : ℕ) → IsFew c plan tiles → (t f : ℕ) → local_face c plan t f < 2 ^ 31
face_small c plan tiles few t f =
    let most : length c.faces < 2 ^ 24 = few.faces in
    let up : local_face c plan t f ≤ length c.faces + 3 = local_face_few c plan t f in
    omega arith

-- ---- references

number_part : (n : ℕ) → n < 2 ^ 31 → IsTrue (is_small (Some n))
number_part n h = lt-ltb n 0x8000_0000 (omega arith)

plain_small : (n : ℕ) → n < 2 ^ 31 → HasSmallParts (plain n)
plain_small n h = record { id = number_part n h; tile = refl; ext = refl }

cross_small : (n t m : ℕ) → n < 2 ^ 31 → t < 2 ^ 31 → m < 2 ^ 31 → HasSmallParts (cross n t m)
cross_small n t m h k l = record { id = number_part n h; tile = number_part t k; ext = number_part m l }

either_small : (b : Bool) (x y : Triplet) → HasSmallParts x → HasSmallParts y → HasSmallParts (cond b x y)
either_small true x y one other = one
either_small false x y one other = other

reference_small : (t s here there : ℕ) → s < 2 ^ 31 → here < 2 ^ 31 → there < 2 ^ 31 → HasSmallParts (reference_to t s here there)
reference_small t s here there h k l = either_small (eqb s t) (plain here) (cross here s there) (plain_small here k) (cross_small here s there k h l)

-- ---- tiles

-- the tile of a face other than the universe
planned : (c : Primitives) (plan : ℕ → ℕ) (tiles : ℕ) → IsFew c plan tiles → (f : ℕ) → InFaces c f → f ≢ 1 → plan f < 2 ^ 31
planned c plan tiles few f there other =
    let low : 1 ≤ f = there.from_one in
    let last : plan f ≤ tiles = few.tileable.plans.to_last f (omega arith) there.to_last in
    let most : tiles < 2 ^ 31 = few.last in
    omega arith

-- the home of a dart
home_small : (c : Primitives) (plan : ℕ → ℕ) (tiles : ℕ) → IsFew c plan tiles → (d : ℕ) → (untiled_links c).has d ≡ true → home c plan d < 2 ^ 31
home_small c plan tiles few d has =
    let well : IsWellFormed c = few.tileable.well_formed in
    elim (cases_eq (face_of c d) 1) [
      | inl same ↦
          subst (λ (b : Bool). cond b (plan (face_of c (flip d))) (plan (face_of c d)) < 2 ^ 31) (sym (eq-eqb (face_of c d) 1 same))
          (planned c plan tiles few (face_of c (flip d)) (in_faces c well (flip d) (flip-has (untiled c) d has)) (few.tileable.places.edges d has same))
      | inr other ↦
          subst (λ (b : Bool). cond b (plan (face_of c (flip d))) (plan (face_of c d)) < 2 ^ 31) (sym (ne_eqb (face_of c d) 1 other))
          (planned c plan tiles few (face_of c d) (in_faces c well d has) other)
    ]

next_has : (c : Primitives) (plan : ℕ → ℕ) (tiles : ℕ) → IsFew c plan tiles → (d : ℕ) → (untiled_links c).has d ≡ true
    → (untiled_links c).has (next_of c d) ≡ true
next_has c plan tiles few d has = (source_next c few.tileable.well_formed d has).has

-- ---- the references of an edge

wing_small : (c : Primitives) (plan : ℕ → ℕ) (tiles : ℕ) → IsFew c plan tiles → (t d : ℕ) → (untiled_links c).has d ≡ true
    → HasSmallParts (tiled_wing c plan t d)
wing_small c plan tiles few t d has =
    let s : ℕ = home c plan (next_of c d) in
    reference_small t s (local_edge c plan t (edge_in ((tile_map c plan t).next d))) (local_edge c plan s (edge_in (next_of c d)))
    (home_small c plan tiles few (next_of c d) (next_has c plan tiles few d has))
    (edge_small c plan tiles few t (edge_in ((tile_map c plan t).next d))) (edge_small c plan tiles few s (edge_in (next_of c d)))

end_small : (c : Primitives) (plan : ℕ → ℕ) (tiles : ℕ) → IsFew c plan tiles → (t d : ℕ) → (untiled_links c).has d ≡ true
    → HasSmallParts (tiled_node c plan t d)
end_small c plan tiles few t d has =
    let s : ℕ = home c plan (next_of c d) in
    reference_small t s (local_node c plan t (head_of c d)) (local_node c plan s (head_of c d))
    (home_small c plan tiles few (next_of c d) (next_has c plan tiles few d has))
    (node_small c plan tiles few t (head_of c d)) (node_small c plan tiles few s (head_of c d))

side_small : (c : Primitives) (plan : ℕ → ℕ) (tiles : ℕ) → IsFew c plan tiles → (t f : ℕ) → InFaces c f → HasSmallParts (tiled_face c plan t f)
side_small c plan tiles few t f there = elim (cases_eq f 1) [
  | inl same ↦ subst (λ (b : Bool). HasSmallParts (cond b (plain 1) others)) (sym (eq-eqb f 1 same)) (plain_small 1 (omega arith))
  | inr other ↦
      subst (λ (b : Bool). HasSmallParts (cond b (plain 1) others)) (sym (ne_eqb f 1 other))
      (either_small (eqb (plan f) t) here away (plain_small (local_face c plan t f) (face_small c plan tiles few t f))
      (cross_small 1 (plan f) (local_face c plan (plan f) f) (omega arith) (planned c plan tiles few f there other) (face_small c plan tiles few (plan f) f)))
]
  where
    here : Triplet
    here = plain (local_face c plan t f)

    away : Triplet
    away = cross 1 (plan f) (local_face c plan (plan f) f)

    others : Triplet
    others = cond (eqb (plan f) t) here away

-- the parts of all references of an edge are small
pub record HasSmall (e : EdgePrimitive) : Type 0 where
  pub start_node : HasSmallParts e.start_node
  pub end_node : HasSmallParts e.end_node
  pub right_face : HasSmallParts e.right_face
  pub left_face : HasSmallParts e.left_face
  pub right_edge : HasSmallParts e.right_edge
  pub left_edge : HasSmallParts e.left_edge

pub tiled_edge_small : (c : Primitives) (plan : ℕ → ℕ) (tiles : ℕ) → IsFew c plan tiles → (t k e : ℕ) → has_edge c plan t e ≡ true
    → HasSmall (tiled_edge c plan t k e)
tiled_edge_small c plan tiles few t k e present =
    let well : IsWellFormed c = few.tileable.well_formed in
    let plus : (untiled_links c).has (code 0 e 0) ≡ true = present_has c plan t (code 0 e 0) present in
    let minus : (untiled_links c).has (code 0 e 1) ≡ true =
    other_has c (code 0 e 1) (subst (λ (d : ℕ). (untiled_links c).has d ≡ true) (sym (other-code e)) plus) in
    record {
      start_node = end_small c plan tiles few t (code 0 e 1) minus;
      end_node = end_small c plan tiles few t (code 0 e 0) plus;
      right_face = side_small c plan tiles few t (face_of c (code 0 e 0)) (in_faces c well (code 0 e 0) plus);
      left_face = side_small c plan tiles few t (face_of c (code 0 e 1)) (in_faces c well (code 0 e 1) minus);
      right_edge = wing_small c plan tiles few t (code 0 e 0) plus;
      left_edge = wing_small c plan tiles few t (code 0 e 1) minus;
    }
  where
    other_has : (c : Primitives) (d : ℕ) → (untiled_links c).has (flip d) ≡ true → (untiled_links c).has d ≡ true
    other_has c d h = subst (λ (d : ℕ). (untiled_links c).has d ≡ true) (flip-flip d) (flip-has (untiled c) (flip d) h)

-- ---- rings

-- a ring names a face and an edge by small numbers
pub record IsSmallRing (r : Ring) : Type 0 where
  pub face : r.face < 2 ^ 31
  pub edge : r.edge < 2 ^ 31

all_map : {X Y : Type 0} (P : Y → Type 0) (f : X → Y) (xs : List X) → ((x : X) → P (f x)) → AllByRecursion P (map f xs)
all_map P f [] each = tt
all_map P f (x ∷ xs) each = (each x, all_map P f xs each)

pub rings_small : (c : Primitives) (plan : ℕ → ℕ) (tiles : ℕ) → IsFew c plan tiles → (t : ℕ) → AllByRecursion IsSmallRing (tiled_rings c plan t)
rings_small c plan tiles few t =
    all_joined IsSmallRing (outer_rings c plan t) (flat_map (face_rings c plan t) (held_faces c plan t))
    (all_map IsSmallRing _ _ (λ d. record { face = omega arith; edge = edge_small c plan tiles few t (edge_in d) }))
    (all_flat IsSmallRing (face_rings c plan t) (held_faces c plan t)
    (λ f. all_map IsSmallRing _ _ (λ r. record { face = face_small c plan tiles few t f; edge = edge_small c plan tiles few t (id_of r.start_edge) })))
