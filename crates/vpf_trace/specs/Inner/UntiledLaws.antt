-- An untiled coverage whose cycles hold: every dart is a home dart, and goes on to its next round its wing.
use Rattle.std.proofs.Common.{◌≡◌, ℕ, ◌≤◌, Bool, true, false, not, eqb, ◌&&◌, refl, sym, ap, ◌∙◌, subst, inl, inr, arith, Option, Some, None, length}
use Rattle.std.specs.Prelude.{is_some}
use Rattle.std.specs.Option.{option_eq}
use Rattle.std.proofs.lemmas.Bool.{cases_Bool, and_from, eqb-true, eq-eqb}
use Rattle.vpf_triplet.specs.declared.triplets.Triplet.{Triplet}
use Rattle.vpf_darts.specs.Darts.{code, tile_in, edge_in, flip}
use Rattle.vpf_prims.specs.Primitives.{EdgePrimitive, Library, Primitives, edge_count, edges_in, face_count, has_tables, is_there}
use Rattle.vpf_prims.specs.Libraries.{IsLibrary}
use Rattle.vpf_prims.specs.References.{id_of}
use Rattle.vpf_prims.specs.Numbering.{IsPlain, IsReference, IsFace, IsEdgeOf, IsNumbered}
use Rattle.vpf_wing.specs.Links.{DartLinks, Link, edge_of_dart, face_by, is_minus, is_next, link_of, links_of, local_next, only, tail_node, wing_by}
use Rattle.vpf_wing.specs.WellFormed.{HasCycles, IsDartOf}
use Rattle.vpf_cross.specs.Following.{face_beyond, face_name, follow, follow_to, is_far_face, is_home, is_named, same_beyond}
use Rattle.vpf_cross.specs.Sided.{HasFollowers}
use Rattle.vpf_wing.specs.Inner.DartLaws.{IsThere, never_both, has-there, flip-tile, code-tile}
use Rattle.vpf_cross.specs.FollowLaws.{home_has}

-- an untiled coverage whose numbers and cycles are right
pub record IsUntiled (L : Library) : Type 0 where
  pub untiled : L.is_tiled ≡ false
  pub library : IsLibrary L
  pub numbered : (t : ℕ) → has_tables L t ≡ true → IsNumbered L t
  pub cycles : (t : ℕ) → has_tables L t ≡ true → HasCycles L t

plain_stays : (low last : ℕ) (r : Triplet) → IsPlain low last r → (link_of r).out ≡ None
plain_stays low last r p = ap (λ (r : Triplet). (link_of r).out) p.is

reference_stays : (L : Library) (count : ℕ → ℕ) (t : ℕ) (r : Triplet) → L.is_tiled ≡ false → IsReference L count t r
    → ((link_of r).out ≡ None) × (id_of r ≤ count t)
reference_stays L count t r un i = elim i [
  | inl p ↦ (plain_stays 1 (count t) r p, subst (λ (n : ℕ). n ≤ count t) (sym (ap id_of p.is)) p.to_last)
  | inr x ↦ absurd (never_both L.is_tiled x.of_tiles un)
]

face_stays : (L : Library) (t : ℕ) (r : Triplet) → L.is_tiled ≡ false → IsFace L t r → (link_of r).out ≡ None
face_stays L t r un i = elim i [ inl p ↦ plain_stays 1 (face_count L t) r p | inr x ↦ absurd (never_both L.is_tiled x.0.of_tiles un) ]

tables_there : (o : Option Primitives) → 1 ≤ length (edges_in o) → is_there o ≡ true
tables_there None h = absurd (omega arith)
tables_there (Some c) h = refl

-- the tile of a dart has tables
pub dart_tables : (L : Library) (d : ℕ) → (links_of L).has d ≡ true → has_tables L (tile_in d) ≡ true
dart_tables L d h =
    let i : IsThere L d = has-there L d h in
    let low = i.from_one in
    let high = i.to_count in
    tables_there (L.tile (tile_in d)) (omega arith)

edge_numbered : (L : Library) → IsUntiled L → (d : ℕ) → (links_of L).has d ≡ true → IsEdgeOf L (tile_in d) (edge_in d) (edge_of_dart L d)
edge_numbered L a d h =
    let i : IsThere L d = has-there L d h in
    (a.numbered (tile_in d) (dart_tables L d h)).edges (edge_in d) (i.from_one, i.to_count)

wing_named : (L : Library) (t k : ℕ) (m : Bool) (e : EdgePrimitive) → IsEdgeOf L t k e → IsReference L (edge_count L) t (wing_by m e)
wing_named L t k true e i = i.left_edge
wing_named L t k false e i = i.right_edge

face_named : (L : Library) (t k : ℕ) (m : Bool) (e : EdgePrimitive) → IsEdgeOf L t k e → IsFace L t (face_by m e)
face_named L t k true e i = i.left_face
face_named L t k false e i = i.right_face

wing_stays : (L : Library) → IsUntiled L → (d : ℕ) → (links_of L).has d ≡ true
    → (((links_of L).wing d).out ≡ None) × (((links_of L).wing d).id ≤ edge_count L (tile_in d))
wing_stays L a d h =
    reference_stays L (edge_count L) (tile_in d) (wing_by (is_minus d) (edge_of_dart L d)) a.untiled
    (wing_named L (tile_in d) (edge_in d) (is_minus d) (edge_of_dart L d) (edge_numbered L a d h))

dart_face_stays : (L : Library) → IsUntiled L → (d : ℕ) → (links_of L).has d ≡ true → ((links_of L).face d).out ≡ None
dart_face_stays L a d h =
    face_stays L (tile_in d) (face_by (is_minus d) (edge_of_dart L d)) a.untiled
    (face_named L (tile_in d) (edge_in d) (is_minus d) (edge_of_dart L d) (edge_numbered L a d h))

near : (b : Bool) (f : Link) → f.out ≡ None → not (b && is_some f.out) ≡ true
near true f out = ap (λ o. not (is_some o)) out
near false f out = refl

pub untiled_home : (L : Library) → IsUntiled L → (d : ℕ) → (links_of L).has d ≡ true → is_home (links_of L) d ≡ true
untiled_home L a d h =
    and_from ((links_of L).has d) (not (is_far_face ((links_of L).face d))) h
    (near (eqb ((links_of L).face d).id 1) ((links_of L).face d) (dart_face_stays L a d h))

-- faces of one tile have one name exactly where they have one number
one_name : (t : ℕ) (f g : Link) → f.out ≡ None → g.out ≡ None → option_eq same_beyond (face_beyond t f) (face_beyond t g) ≡ eqb f.id g.id
one_name t f g fo go = elim (cases_Bool (eqb f.id 1)) [
  | inl ft ↦ (elim (cases_Bool (eqb g.id 1)) [
    | inl gt ↦ rw (ft, gt, fo, go) (sym (eq-eqb f.id g.id (eqb-true f.id 1 ft ∙ sym (eqb-true g.id 1 gt))))
    | inr gf ↦ rw (ft, gf, fo) (rw (eqb-true f.id 1 ft) (grind arith))
  ])
  | inr ff ↦ (elim (cases_Bool (eqb g.id 1)) [
    | inl gt ↦ rw (ff, gt, go) (rw (eqb-true g.id 1 gt) (sym ff))
    | inr gf ↦ rw (ff, gf) (rw (eq-eqb t t refl) refl)
  ])
]

named_by : (h b c d : Bool) → c ≡ d → (h && (b && c)) ≡ (h && (b && d))
named_by h b c d e = ap (λ z. h && (b && z)) e

-- a dart of its tile is named by a dart exactly where it may be its next
named_next : (L : Library) → IsUntiled L → (d node e : ℕ) → (links_of L).has d ≡ true → tile_in e ≡ tile_in d
    → is_named (links_of L) node (face_name (links_of L) d) e ≡ is_next (links_of L) node ((links_of L).face d).id e
named_next L a d node e hd same = elim (cases_Bool ((links_of L).has e)) [
  | inl he ↦ (
      let one : option_eq same_beyond (face_name (links_of L) e) (face_name (links_of L) d) ≡ eqb ((links_of L).face e).id ((links_of L).face d).id =
      ap (λ t. option_eq same_beyond (face_beyond t ((links_of L).face e)) (face_name (links_of L) d)) same
      ∙ one_name (tile_in d) ((links_of L).face e) ((links_of L).face d) (dart_face_stays L a e he) (dart_face_stays L a d hd) in
      ap (λ b. b && (eqb (tail_node (links_of L) e) node && option_eq same_beyond (face_name (links_of L) e) (face_name (links_of L) d)))
      (untiled_home L a e he ∙ sym he)
      ∙ named_by ((links_of L).has e) (eqb (tail_node (links_of L) e) node) _ _ one)
  | inr away ↦ neither ((links_of L).has e) _ _ _ away
]
  where
    neither : (b x y z : Bool) → b ≡ false → ((b && x) && y) ≡ (b && z)
    neither true x y z h = absurd (never_both true refl h)
    neither false x y z h = refl

only_same : (p q : ℕ → Bool) (z : ℕ) → p z ≡ q z → p (flip z) ≡ q (flip z) → only p z ≡ only q z
only_same p q z e f = rw (e, f) refl

-- what follows a dart is its next
pub follow_local : (L : Library) → IsUntiled L → (d : ℕ) → (links_of L).has d ≡ true → follow (links_of L) d ≡ local_next (links_of L) d
unfolding follow
follow_local L a d h =
    let C : DartLinks = links_of L in
    let w = wing_stays L a d h in
    let most : (C.wing d).id ≤ edge_count L (tile_in d) = w.1 in
    let few = a.library.few (tile_in d) in
    let z : ℕ = code (tile_in d) (C.wing d).id 0 in
    let tile : tile_in z ≡ tile_in d = code-tile (tile_in d) (C.wing d).id 0 (omega arith) (omega arith) in
    ap (λ o. follow_to C (tile_in d) (C.wing d).id (C.node d).id (face_name C d) o (C.node d).out) w.0
    ∙ only_same (is_named C (C.node d).id (face_name C d)) (is_next C (C.node d).id (C.face d).id) z
    (named_next L a d (C.node d).id z h tile) (named_next L a d (C.node d).id (flip z) h (flip-tile z ∙ tile))

pub untiled_followers : (L : Library) → IsUntiled L → HasFollowers (links_of L)
untiled_followers L a =
    let C : DartLinks = links_of L in
    let first : (d : ℕ) → (links_of L).has d ≡ true → IsDartOf (links_of L) 0 d = λ d h.
    (let last = (has-there L d h).to_last in
    let only_one : L.last ≡ 0 = a.library.one a.untiled in
    record { has = h; tile = omega arith }) in
    let there : (d : ℕ) → (links_of L).has d ≡ true → has_tables L 0 ≡ true = λ d h. subst (λ t. has_tables L t ≡ true) (first d h).tile (dart_tables L d h) in
    record {
      follows = λ d h. (let n = (a.cycles 0 (there d h)).next d (first d h) in (n.0, follow_local L a d h ∙ n.1));
      follow_apart = λ d e hd he q.
          let d_has = home_has C d hd in
          let e_has = home_has C e he in
          (a.cycles 0 (there d d_has)).next_apart d e (first d d_has) (first e e_has) (sym (follow_local L a d d_has) ∙ q ∙ follow_local L a e e_has);
    }
