-- What is said of the copies of a dart.
use Rattle.std.proofs.Common.{◌≡◌, ℕ, zero, suc, ◌+◌, ◌^◌, ◌<◌, ◌≤◌, ◌⊎◌, Bool, true, false, cond, eqb, leb, ◌||◌, ◌&&◌, refl, sym, ap, ◌∙◌, subst, inl, inr, arith, Some, None, List, [], ◌∷◌, length}
use Rattle.std.specs.List.{list_any}
use Rattle.std.specs.Prelude.{filter}
use Rattle.std.proofs.lemmas.Bool.{cases_Bool, and_parts, and_from, or_cases, or_left, or_right, eqb-true, eq-eqb, leb-true, le-leb}
use Rattle.vpf_darts.specs.Darts.{code, tile_in, edge_in, sign_in, flip}
use Rattle.vpf_prims.specs.Lists.{kth}
use Rattle.vpf_tiling.specs.Ranks.{rank, up_to}
use Rattle.vpf_prims.specs.Primitives.{Primitives, Library, EdgePrimitive, untiled, absent_edge, edges_in, tile_edges, edge_count}
use Rattle.vpf_wing.specs.Links.{links_of, link_of, edge_of_dart, is_minus, wing_by, node_by, face_by}
use Rattle.vpf_tiling.specs.Presence.{untiled_links, face_of, holds_face, held_faces, is_within, is_present, has_edge, present_edges, local_edge, copy_in}
use Rattle.vpf_tiling.specs.Tiles.{tiled_edge, tiled_edges, tiled_wing, tiled_node, tiled_face, tiled_primitives, is_made, tiled_library}
use Rattle.vpf_tiling.specs.Plans.{IsPlan, IsTileable}
use Rattle.vpf_tiling_laws.proofs.tiled.Parts.{CopiesHaveLinks}
use Rattle.vpf_wing.specs.Inner.DartLaws.{code-sign, never_both, stands_in, IsThere, has-there, there-has, code-parts, code-tile, code-edge, sign-cases, flip-flip, flip-has}
use Rattle.vpf_tiling_laws.proofs.tiled.NumberLemmas.{edges_by_number}
use Rattle.vpf_tiling.specs.Inner.PresenceLaws.{Held, any_from, dart_is, edge_present, held, holds_held, in_zero, no_edge_zero, present_has, sign-below, stands_filter, up_stands}
use Rattle.vpf_tiling.specs.Inner.RankLaws.{count_is, numbered_many, rank-step, rank_rises, weight}

-- a tile with a face has tables
pub made : (c : Primitives) (plan : ℕ → ℕ) (tiles t : ℕ) → IsPlan c plan tiles → Held c plan t → is_made c plan tiles t ≡ true
made c plan tiles t p k = (
    let a : 1 ≤ plan k.face = p.from_one k.face k.from_two k.to_last in
    let b : plan k.face ≤ tiles = p.to_last k.face k.from_two k.to_last in
    let one : 1 ≤ t = subst (λ z. 1 ≤ z) k.planned a in
    let last : t ≤ tiles = subst (λ z. z ≤ tiles) k.planned b in
    let f2 = k.from_two in
    let in_list : stands_in k.face (held_faces c plan t) ≡ true =
    stands_filter (holds_face c plan t) k.face (up_to (length c.faces)) (holds_held c plan t k)
    (up_stands (length c.faces) k.face (omega arith) k.to_last) in
    and_from (leb 1 t && leb t tiles) (eqb t 1 || list_any (λ f. true) (held_faces c plan t))
    (and_from (leb 1 t) (leb t tiles) (le-leb 1 t one) (le-leb t tiles last))
    (or_right (eqb t 1) (list_any (λ f. true) (held_faces c plan t)) (any_from (λ f. true) (held_faces c plan t) k.face in_list refl)))

pub tile_is : (c : Primitives) (plan : ℕ → ℕ) (tiles t : ℕ) → is_made c plan tiles t ≡ true
    → (tiled_library c plan tiles).tile t ≡ Some (tiled_primitives c plan t)
tile_is c plan tiles t h = ap (λ b. cond b (Some (tiled_primitives c plan t)) None) h

pub edges_are : (c : Primitives) (plan : ℕ → ℕ) (tiles t : ℕ) → is_made c plan tiles t ≡ true → tile_edges (tiled_library c plan tiles) t ≡ tiled_edges c plan t
edges_are c plan tiles t h = ap edges_in (tile_is c plan tiles t h)

pub rank-le : (p : ℕ → Bool) (n : ℕ) → rank p n ≤ n
rank-le p zero = omega arith
rank-le p (suc n) = elim (cases_Bool (p n)) [
  | inl t ↦ (let a : rank p n ≤ n = rank-le p n in let r : rank p (suc n) ≡ 1 + rank p n = rank_one p n t in omega arith)
  | inr u ↦ (let a : rank p n ≤ n = rank-le p n in let r : rank p (suc n) ≡ 0 + rank p n = rank_none p n u in omega arith)
]
  where
    rank_one : (p : ℕ → Bool) (n : ℕ) → p n ≡ true → rank p (suc n) ≡ 1 + rank p n
    rank_one p n h = rank-step p n 1 (ap weight h)

    rank_none : (p : ℕ → Bool) (n : ℕ) → p n ≡ false → rank p (suc n) ≡ 0 + rank p n
    rank_none p n h = rank-step p n 0 (ap weight h)

-- where a copy stands, and its edge
pub record CopyAt (c : Primitives) (plan : ℕ → ℕ) (tiles t d : ℕ) : Type 0 where
  pub tile : tile_in (copy_in c plan t d) ≡ t
  pub edge : edge_in (copy_in c plan t d) ≡ local_edge c plan t (edge_in d)
  pub sign : sign_in (copy_in c plan t d) ≡ sign_in d
  pub has : (links_of (tiled_library c plan tiles)).has (copy_in c plan t d) ≡ true
  pub row : edge_of_dart (tiled_library c plan tiles) (copy_in c plan t d) ≡ tiled_edge c plan t (local_edge c plan t (edge_in d)) (edge_in d)

pub copy_at : (c : Primitives) (plan : ℕ → ℕ) (tiles : ℕ) → IsTileable c plan tiles → (t d : ℕ) → is_present c plan t d ≡ true → CopyAt c plan tiles t d
copy_at c plan tiles w t d h = (
    let L : Library = tiled_library c plan tiles in
    let e : ℕ = edge_in d in
    let k : ℕ = local_edge c plan t e in
    let x : ℕ = copy_in c plan t d in
    let p : ℕ → Bool = has_edge c plan t in
    let there : p e ≡ true = edge_present c plan t d h in
    let i : IsThere (untiled c) d = has-there (untiled c) d (present_has c plan t d h) in
    let z : tile_in d ≡ 0 = (in_zero c d (present_has c plan t d h)).tile in
    let le : e ≤ length c.edges = subst (λ s. e ≤ edge_count (untiled c) s) z i.to_count in
    let small : rank p e ≤ e = rank-le p e in
    let few : length c.edges < 2 ^ 24 = w.few in
    let ok : k < 2 ^ 32 = omega arith in
    let tile : tile_in x ≡ t = code-tile t k (sign_in d) ok (sign-below d) in
    let edge : edge_in x ≡ k = code-edge t k (sign_in d) ok (sign-below d) in
    let m : is_made c plan tiles t ≡ true = made c plan tiles t w.plans (held c plan t d h) in
    let are : tile_edges L t ≡ tiled_edges c plan t = edges_are c plan tiles t m in
    let many : edge_count L t ≡ rank p (suc (length c.edges)) =
    ap length are ∙ numbered_many (tiled_edge c plan t) 1 (present_edges c plan t) ∙ count_is p (no_edge_zero c plan t) (length c.edges) in
    let lt : rank p e < rank p (suc (length c.edges)) = rank_rises p e (length c.edges) there le in
    let last : t ≤ tiles = leb-true t tiles (and_parts (leb 1 t) (leb t tiles) (and_parts (leb 1 t && leb t tiles) _ m).0).1 in
    let count : k ≤ edge_count L t = omega arith in
    record {
      tile = tile;
      edge = edge;
      sign = code-sign t k (sign_in d) (sign-below d);
      has = there-has L x (record {
        from_one = subst (λ v. 1 ≤ v) (sym edge) (omega arith);
        to_count = subst (λ s. edge_in x ≤ edge_count L s) (sym tile) (subst (λ v. v ≤ edge_count L t) (sym edge) count);
        to_last = subst (λ s. s ≤ tiles) (sym tile) last;
      });
      row =
          ap (λ s. kth (tile_edges L s) (edge_in x) absent_edge) tile ∙ ap (λ v. kth (tile_edges L t) v absent_edge) edge
          ∙ ap (λ rows. kth rows k absent_edge) are ∙ edges_by_number c plan t e there le;
    })

-- the wing, the head node and the face of the two darts of an edge
pub wing_sides : (c : Primitives) (plan : ℕ → ℕ) (t k e s : ℕ) → (s ≡ 0) ⊎ (s ≡ 1)
    → wing_by (eqb s 1) (tiled_edge c plan t k e) ≡ tiled_wing c plan t (code 0 e s)
wing_sides c plan t k e s h = elim h [
  | inl z ↦ ap (λ v. wing_by (eqb v 1) (tiled_edge c plan t k e)) z ∙ ap (λ v. tiled_wing c plan t (code 0 e v)) (sym z)
  | inr o ↦ ap (λ v. wing_by (eqb v 1) (tiled_edge c plan t k e)) o ∙ ap (λ v. tiled_wing c plan t (code 0 e v)) (sym o)
]

pub node_sides : (c : Primitives) (plan : ℕ → ℕ) (t k e s : ℕ) → (s ≡ 0) ⊎ (s ≡ 1)
    → node_by (eqb s 1) (tiled_edge c plan t k e) ≡ tiled_node c plan t (code 0 e s)
node_sides c plan t k e s h = elim h [
  | inl z ↦ ap (λ v. node_by (eqb v 1) (tiled_edge c plan t k e)) z ∙ ap (λ v. tiled_node c plan t (code 0 e v)) (sym z)
  | inr o ↦ ap (λ v. node_by (eqb v 1) (tiled_edge c plan t k e)) o ∙ ap (λ v. tiled_node c plan t (code 0 e v)) (sym o)
]

pub face_sides : (c : Primitives) (plan : ℕ → ℕ) (t k e s : ℕ) → (s ≡ 0) ⊎ (s ≡ 1)
    → face_by (eqb s 1) (tiled_edge c plan t k e) ≡ tiled_face c plan t (face_of c (code 0 e s))
face_sides c plan t k e s h = elim h [
  | inl z ↦ ap (λ v. face_by (eqb v 1) (tiled_edge c plan t k e)) z ∙ ap (λ v. tiled_face c plan t (face_of c (code 0 e v))) (sym z)
  | inr o ↦ ap (λ v. face_by (eqb v 1) (tiled_edge c plan t k e)) o ∙ ap (λ v. tiled_face c plan t (face_of c (code 0 e v))) (sym o)
]

pub copies_have_links : CopiesHaveLinks
copies_have_links c plan tiles w t d h = (
    let e : ℕ = edge_in d in
    let k : ℕ = local_edge c plan t e in
    let x : ℕ = copy_in c plan t d in
    let hd : (untiled_links c).has d ≡ true = present_has c plan t d h in
    let is : code 0 e (sign_in d) ≡ d = dart_is c d hd in
    let z : tile_in d ≡ 0 = (in_zero c d hd).tile in
    let a : CopyAt c plan tiles t d = copy_at c plan tiles w t d h in
    let row : EdgePrimitive = tiled_edge c plan t k e in
    record {
      has = a.has;
      wing =
          ap (λ r. link_of (wing_by (is_minus x) r)) a.row ∙ ap (λ s. link_of (wing_by (eqb s 1) row)) a.sign
          ∙ ap link_of (wing_sides c plan t k e (sign_in d) (sign-cases d)) ∙ ap (λ v. link_of (tiled_wing c plan t v)) is;
      node =
          ap (λ r. link_of (node_by (is_minus x) r)) a.row ∙ ap (λ s. link_of (node_by (eqb s 1) row)) a.sign
          ∙ ap link_of (node_sides c plan t k e (sign_in d) (sign-cases d)) ∙ ap (λ v. link_of (tiled_node c plan t v)) is;
      face =
          ap (λ r. link_of (face_by (is_minus x) r)) a.row ∙ ap (λ s. link_of (face_by (eqb s 1) row)) a.sign
          ∙ ap link_of (face_sides c plan t k e (sign_in d) (sign-cases d)) ∙ ap (λ v. link_of (tiled_face c plan t (face_of c v))) is;
      mark = ap (λ r. r.mark) a.row ∙ ap (λ s. (kth (tile_edges (untiled c) s) e absent_edge).mark) (sym z);
      carried = ap (λ r. r.carried) a.row ∙ ap (λ s. (kth (tile_edges (untiled c) s) e absent_edge).carried) (sym z);
    })
