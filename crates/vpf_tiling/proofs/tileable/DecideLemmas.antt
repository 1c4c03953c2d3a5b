-- There is no cause against a plan exactly where it serves.
use Rattle.std.proofs.Common.{◌≡◌, ◌≢◌, ℕ, ℤ, pos, negsuc, zero, suc, ◌+◌, ◌-◌, ◌^◌, ◌<◌, ◌≤◌, Bool, true, false, not, cond, eqb, leb, ◌&&◌, refl, sym, ap, ◌∙◌, subst, inl, inr, arith, Option, Some, None, List, length}
use Rattle.std.proofs.lemmas.Bool.{cases_Bool, and_parts, and_from, eqb-true, eq-eqb, ne_eqb, leb-true, le-leb}
use Rattle.vpf_darts.specs.Darts.{code, tile_in, edge_in, flip}
use Rattle.vpf_findings.specs.Firsts.{unless, where_holds, first_over}
use Rattle.vpf_findings.specs.Inner.FirstLaws.{or-none_both, over_none, over_silent}
use Rattle.vpf_prims.specs.Lists.{kth}
use Rattle.vpf_prims.specs.Numbering.{IsRowOf}
use Rattle.vpf_prims.specs.Primitives.{Primitives, untiled, absent_edge, entities_in, tile_edges, tile_entities}
use Rattle.vpf_prims.specs.References.{id_of}
use Rattle.vpf_wing.specs.Inner.DartLaws.{never_both, IsThere, has-there, there-has, code-tile, code-edge, minus-code, flip-edge, flip-has, flip-minus}
use Rattle.vpf_wing.specs.Links.{face_by, is_minus}
use Rattle.vpf_tiling.specs.Plans.{IsPlan, HasPlaces}
use Rattle.vpf_tiling.specs.Presence.{untiled_links, face_of, containing_face}
use Rattle.vpf_tiling.specs.Inner.PresenceLaws.{in_zero}
use Rattle.vpf_tiling.specs.declared.tileable.refusals.Refusal.{Refusal}
use Rattle.vpf_tiling.specs.declared.tileable.refusals.Refusal.TheVariants as refusals
use Rattle.vpf_tiling.specs.Tileable.Planning.{named_for, is_tile, tile_number, planned_tile, plan_of}
use Rattle.vpf_tiling.specs.Tileable.Refusals.{not_named, no_plan, no_plans, named_no_tile, unknown_tile, unknown_tiles, edge_outside, edges_outside, entity_outside, entities_outside, first_refusal}
use Rattle.vpf_tiling.specs.Inner.Tileable.Laws.{RefusalsDecide}

-- nothing is said at any of some numbers
numbers_none : {F : Type 0} (line : ℕ → Option F) (from n : ℕ) → first_over (λ i. line (i + 1)) from n ≡ None → (k : ℕ) → from < k → k ≤ from + n → line k ≡ None
numbers_none line from n h zero a b = absurd (omega arith)
numbers_none line from n h (suc i) a b =
    subst (λ k. line k ≡ None) (let q : i + 1 ≡ suc i = omega arith in q) (over_none (λ i. line (i + 1)) from n h i (omega arith) (omega arith))

numbers_silent : {F : Type 0} (line : ℕ → Option F) (from n : ℕ) → ((k : ℕ) → from < k → k ≤ from + n → line k ≡ None) → first_over (λ i. line (i + 1)) from n ≡ None
numbers_silent line from n h = over_silent (λ i. line (i + 1)) from n (λ d low high. h (d + 1) (omega arith) (omega arith))

unless_true : (b : Bool) (x : Refusal) → unless b x ≡ None → b ≡ true
unless_true true x h = refl
unless_true false x h = absurd cc

where_false : (b : Bool) (x : Refusal) → where_holds b x ≡ None → b ≡ false
where_false false x h = refl
where_false true x h = absurd cc

-- the tile of a face but the universe
own_tile : (f : ℕ) (o : Option ℤ) → 2 ≤ f → planned_tile f o ≡ tile_number o
own_tile f o two = ap (λ b. cond b 0 (tile_number o)) (ne_eqb f 1 (λ e. omega arith))

-- what is named for a face serves where neither line says anything of it
serves : (tiles f : ℕ) (o : Option ℤ) → 2 ≤ f → not_named f o ≡ None → named_no_tile tiles f o ≡ None → (1 ≤ planned_tile f o) × (planned_tile f o ≤ tiles)
serves tiles f None two a b = absurd cc
serves tiles f (Some (pos n)) two a b =
    let face : planned_tile f (Some (pos n)) ≡ n = own_tile f (Some (pos n)) two in
    let p = and_parts (leb 1 n) (leb n tiles) (unless_true (is_tile tiles (pos n)) _ b) in
    (subst (λ k. 1 ≤ k) (sym face) (leb-true 1 n p.0), subst (λ k. k ≤ tiles) (sym face) (leb-true n tiles p.1))
serves tiles f (Some (negsuc n)) two a b = absurd cc

-- and only there
passes : (tiles f : ℕ) (o : Option ℤ) → 2 ≤ f → 1 ≤ planned_tile f o → planned_tile f o ≤ tiles → (not_named f o ≡ None) × (named_no_tile tiles f o ≡ None)
passes tiles f None two a b = (let face : planned_tile f None ≡ 0 = own_tile f None two in absurd (omega arith))
passes tiles f (Some (pos n)) two a b =
    (let face : planned_tile f (Some (pos n)) ≡ n = own_tile f (Some (pos n)) two in
    (refl, ap (λ t. unless t (refusals.UnknownTile f (pos n))) (and_from (leb 1 n) (leb n tiles) (le-leb 1 n (omega arith)) (le-leb n tiles (omega arith)))))
passes tiles f (Some (negsuc n)) two a b = (let face : planned_tile f (Some (negsuc n)) ≡ 0 = own_tile f (Some (negsuc n)) two in absurd (omega arith))

-- the face of a dart, by the row of its edge
face_is : (c : Primitives) (d : ℕ) → (untiled_links c).has d ≡ true → face_of c d ≡ id_of (face_by (is_minus d) (kth c.edges (edge_in d) absent_edge))
face_is c d h = ap (λ t. id_of (face_by (is_minus d) (kth (tile_edges (untiled c) t) (edge_in d) absent_edge))) (in_zero c d h).tile

other_face : (c : Primitives) (d : ℕ) → (untiled_links c).has d ≡ true → face_of c (flip d) ≡ id_of (face_by (not (is_minus d)) (kth c.edges (edge_in d) absent_edge))
other_face c d h =
    face_is c (flip d) (flip-has (untiled c) d h) ∙ ap (λ m. id_of (face_by m (kth c.edges (edge_in (flip d)) absent_edge))) (flip-minus d)
    ∙ ap (λ e. id_of (face_by (not (is_minus d)) (kth c.edges e absent_edge))) (flip-edge d)

-- where both faces are the universe, the line says so
both_sides : (c : Primitives) (e : ℕ) (m : Bool) → id_of (face_by m (kth c.edges e absent_edge)) ≡ 1 → id_of (face_by (not m) (kth c.edges e absent_edge)) ≡ 1
    → edge_outside c e ≡ None → ⊥
both_sides c e true a b h =
    never_both _ (and_from (eqb (id_of (kth c.edges e absent_edge).right_face) 1) (eqb (id_of (kth c.edges e absent_edge).left_face) 1) (eq-eqb _ 1 b) (eq-eqb _ 1 a))
    (where_false _ _ h)
both_sides c e false a b h =
    never_both _ (and_from (eqb (id_of (kth c.edges e absent_edge).right_face) 1) (eqb (id_of (kth c.edges e absent_edge).left_face) 1) (eq-eqb _ 1 a) (eq-eqb _ 1 b))
    (where_false _ _ h)

edges_have_places : (c : Primitives) → edges_outside c ≡ None → (d : ℕ) → (untiled_links c).has d ≡ true → face_of c d ≡ 1 → face_of c (flip d) ≢ 1
edges_have_places c none d h a b =
    let i : IsThere (untiled c) d = has-there (untiled c) d h in
    let z : tile_in d ≡ 0 = (in_zero c d h).tile in
    let last : edge_in d ≤ length c.edges = subst (λ t. edge_in d ≤ length (tile_edges (untiled c) t)) z i.to_count in
    let low = i.from_one in
    both_sides c (edge_in d) (is_minus d) (sym (face_is c d h) ∙ a) (sym (other_face c d h) ∙ b)
    (numbers_none (edge_outside c) 0 (length c.edges) none (edge_in d) (omega arith) (omega arith))

-- the + dart of an edge
plus_has : (c : Primitives) (e : ℕ) → length c.edges < 2 ^ 24 → 1 ≤ e → e ≤ length c.edges → (untiled_links c).has (code 0 e 0) ≡ true
plus_has c e few a b =
    let edge : edge_in (code 0 e 0) ≡ e = code-edge 0 e 0 (omega arith) (omega arith) in
    let tile : tile_in (code 0 e 0) ≡ 0 = code-tile 0 e 0 (omega arith) (omega arith) in
    there-has (untiled c) (code 0 e 0) (record {
      from_one = omega arith;
      to_count = subst (λ t. edge_in (code 0 e 0) ≤ length (tile_edges (untiled c) t)) (sym tile) (let all : edge_in (code 0 e 0) ≤ length c.edges = omega arith in all);
      to_last = omega arith;
    })

right_is : (c : Primitives) (e : ℕ) → length c.edges < 2 ^ 24 → 1 ≤ e → e ≤ length c.edges → face_of c (code 0 e 0) ≡ id_of (kth c.edges e absent_edge).right_face
right_is c e few a b =
    face_is c (code 0 e 0) (plus_has c e few a b)
    ∙ ap (λ k. id_of (face_by (is_minus (code 0 e 0)) (kth c.edges k absent_edge))) (code-edge 0 e 0 (omega arith) (omega arith))
    ∙ ap (λ m. id_of (face_by m (kth c.edges e absent_edge))) (minus-code 0 e false)

left_is : (c : Primitives) (e : ℕ) → length c.edges < 2 ^ 24 → 1 ≤ e → e ≤ length c.edges → face_of c (flip (code 0 e 0)) ≡ id_of (kth c.edges e absent_edge).left_face
left_is c e few a b =
    other_face c (code 0 e 0) (plus_has c e few a b)
    ∙ ap (λ k. id_of (face_by (not (is_minus (code 0 e 0))) (kth c.edges k absent_edge))) (code-edge 0 e 0 (omega arith) (omega arith))
    ∙ ap (λ m. id_of (face_by (not m) (kth c.edges e absent_edge))) (minus-code 0 e false)

edge_passes : (c : Primitives) → length c.edges < 2 ^ 24 → HasPlaces c → (e : ℕ) → 0 < e → e ≤ 0 + length c.edges → edge_outside c e ≡ None
edge_passes c few p e a b = (
    let right : Bool = eqb (id_of (kth c.edges e absent_edge).right_face) 1 in
    let left : Bool = eqb (id_of (kth c.edges e absent_edge).left_face) 1 in
    elim (cases_Bool (right && left)) [
      | inl t ↦ (
          let q = and_parts right left t in
          let last : e ≤ length c.edges = omega arith in
          absurd (p.edges (code 0 e 0) (plus_has c e few (omega arith) last) (right_is c e few (omega arith) last ∙ eqb-true _ 1 q.0)
          (left_is c e few (omega arith) last ∙ eqb-true _ 1 q.1)))
      | inr u ↦ ap (λ t. where_holds t (refusals.EdgeOutside e)) u
    ])

entities_have_places : (c : Primitives) → entities_outside c ≡ None → (n : ℕ) → IsRowOf (length (tile_entities (untiled c) 0)) n → containing_face c n ≢ 1
entities_have_places c none n r e =
    let low = r.0 in
    let last : n ≤ length (entities_in (Some c)) = r.1 in
    never_both (eqb (containing_face c n) 1) (eq-eqb (containing_face c n) 1 e)
    (where_false _ _ (numbers_none (entity_outside c) 0 (length (entities_in (Some c))) none n (omega arith) (omega arith)))

entity_passes : (c : Primitives) → HasPlaces c → (n : ℕ) → 0 < n → n ≤ 0 + length (entities_in (Some c)) → entity_outside c n ≡ None
entity_passes c p n a b =
    ap (λ t. where_holds t (refusals.EntityOutside n)) (ne_eqb (containing_face c n) 1 (p.entities n ((let low : 1 ≤ n = omega arith in low), (let last : n ≤ length (entities_in (Some c)) = omega arith in last))))

-- the four kinds of causes
record NoCause (c : Primitives) (named : List (Option ℤ)) (tiles : ℕ) : Type 0 where
  rows : no_plans named (length c.faces) ≡ None
  tiles_are : unknown_tiles named tiles (length c.faces) ≡ None
  edges : edges_outside c ≡ None
  entities : entities_outside c ≡ None

no_cause : (c : Primitives) (named : List (Option ℤ)) (tiles : ℕ) → first_refusal c named tiles ≡ None → NoCause c named tiles
no_cause c named tiles h =
    let a = or-none_both (no_plans named (length c.faces)) _ h in
    let b = or-none_both (unknown_tiles named tiles (length c.faces)) _ a.1 in
    let e = or-none_both (edges_outside c) (entities_outside c) b.1 in
    record { rows = a.0; tiles_are = b.0; edges = e.0; entities = e.1 }

named_serves : (c : Primitives) (named : List (Option ℤ)) (tiles : ℕ) → NoCause c named tiles → (f : ℕ) → 2 ≤ f → f ≤ length c.faces
    → (1 ≤ plan_of named f) × (plan_of named f ≤ tiles)
named_serves c named tiles n f two last =
    serves tiles f (named_for named f) two (numbers_none (no_plan named) 1 (length c.faces - 1) n.rows f (omega arith) (omega arith))
    (numbers_none (unknown_tile named tiles) 1 (length c.faces - 1) n.tiles_are f (omega arith) (omega arith))

named_passes : (c : Primitives) (named : List (Option ℤ)) (tiles : ℕ) → IsPlan c (plan_of named) tiles → (f : ℕ) → 1 < f → f ≤ 1 + (length c.faces - 1)
    → (no_plan named f ≡ None) × (unknown_tile named tiles f ≡ None)
named_passes c named tiles p f low high =
    let last : f ≤ length c.faces = omega arith in
    passes tiles f (named_for named f) (omega arith) (p.from_one f (omega arith) last) (p.to_last f (omega arith) last)

pub refusals_decide : RefusalsDecide
refusals_decide c named tiles few some = (forth, back)
  where
    forth : first_refusal c named tiles ≡ None → IsPlan c (plan_of named) tiles × HasPlaces c
    forth h =
        let n : NoCause c named tiles = no_cause c named tiles h in (
          record {
            some = some;
            from_one = λ f two last. (named_serves c named tiles n f two last).0;
            to_last = λ f two last. (named_serves c named tiles n f two last).1;
          },
          record { edges = edges_have_places c n.edges; entities = entities_have_places c n.entities },
        )

    back : IsPlan c (plan_of named) tiles × HasPlaces c → first_refusal c named tiles ≡ None
    back p =
        let rows : no_plans named (length c.faces) ≡ None = numbers_silent (no_plan named) 1 (length c.faces - 1) (λ f low high. (named_passes c named tiles p.0 f low high).0) in
        let are : unknown_tiles named tiles (length c.faces) ≡ None =
        numbers_silent (unknown_tile named tiles) 1 (length c.faces - 1) (λ f low high. (named_passes c named tiles p.0 f low high).1) in
        let edges : edges_outside c ≡ None = numbers_silent (edge_outside c) 0 (length c.edges) (edge_passes c few p.1) in
        let entities : entities_outside c ≡ None = numbers_silent (entity_outside c) 0 (length (entities_in (Some c))) (entity_passes c p.1) in
        rw (rows, are, edges, entities) refl
