-- The edges of the renumbered coverage are those of the coverage under new numbers.
use Rattle.std.proofs.Common.{◌≡◌, ℕ, ◌<◌, ◌^◌, true, false, cond, eqb, sym, ap, ◌∙◌, subst, inl, inr, arith, None, [], length}
use Rattle.std.proofs.lemmas.Bool.{eq-eqb}
use Rattle.vpf_darts.specs.Darts.{code, tile_in, edge_in, sign_in, flip}
use Rattle.vpf_prims.specs.Lists.{kth}
use Rattle.vpf_prims.specs.Numbering.{IsRowOf}
use Rattle.vpf_prims.specs.Primitives.{Library, Primitives, absent_edge, tile_edges, untiled}
use Rattle.vpf_prims.specs.References.{plain}
use Rattle.vpf_wing.specs.Links.{links_of}
use Rattle.vpf_wing.specs.Inner.DartLaws.{code-edge, code-sign, code-tile, darts-stand, flip-has, sign-cases, stands_in}
use Rattle.vpf_follow.specs.Following.{is_home}
use Rattle.vpf_tiling.specs.Ranks.{numbered}
use Rattle.vpf_tiling.specs.Inner.RankLaws.{numbered_many}
use Rattle.vpf_tiling.specs.Presence.{coverage_map, dart_name, face_of, home, next_of, untiled_links}
use Rattle.vpf_tiling.specs.Inner.PresenceLaws.{dart_is, other-code, source_next, stands_filter}
use Rattle.vpf_tiling.specs.Plans.{IsTileable}
use Rattle.vpf_tiling.specs.Tiles.{tiled_library}
use Rattle.vpf_tiling_laws.specs.Tiled.Names.{dart_behind, is_name}
use Rattle.vpf_tiling_laws.proofs.tiled.CopyLemmas.{CopyAt, copy_at}
use Rattle.vpf_tiling_laws.proofs.tiled.FollowLemmas.{plus_has}
use Rattle.vpf_tiling_laws.proofs.tiled.LineLemmas.{behind_name, name_is_name, named_flip, named_next}
use Rattle.vpf_tiling_laws.proofs.tiled.NameLemmas.{name_apart}
use Rattle.vpf_tiling_laws.proofs.tiled.NamedLemmas.{home_is_named}
use Rattle.vpf_tiling_laws.proofs.tiled.RowLemmas.{item_numbered}
use Rattle.vpf_tiling_laws.proofs.tiled.SideLemmas.{present_home}
use Rattle.vpf_tiling_laws.proofs.tiled.TableLemmas.{flip-plus}
use Rattle.vpf_tiling_laws.specs.Gluing.Whole.{Whole, face_place, whole_named}
use Rattle.vpf_tiling_laws.specs.Gluing.Glued.{edge_number, face_number, glued_edge, node_number, listed_at, plus_darts}
use Rattle.vpf_tiling_laws.specs.Inner.Gluing.Renumbering.{EdgesAreMoved, EdgesStayApart, new_edge, new_edge_row, new_face}
use Rattle.vpf_tiling_laws.proofs.gluing.DartLemmas.{order_is_named}
use Rattle.vpf_tiling_laws.proofs.gluing.PlaceLemmas.{Placed, place_apart, placed}

-- the copy of a dart in its home
home_copy_at : (c : Primitives) (plan : ℕ → ℕ) (tiles : ℕ) → IsTileable c plan tiles → (d : ℕ) → (untiled_links c).has d ≡ true
    → CopyAt c plan tiles (home c plan d) d
home_copy_at c plan tiles w d h = copy_at c plan tiles w (home c plan d) d (present_home c plan tiles w d h)

-- a name stands among the names
pub name_stands : (c : Primitives) (plan : ℕ → ℕ) (tiles : ℕ) → IsTileable c plan tiles → (d : ℕ) → (untiled_links c).has d ≡ true
    → stands_in (dart_name c plan d) (whole_named c plan tiles).order ≡ true
name_stands c plan tiles w d h =
    let L : Library = tiled_library c plan tiles in
    let x : ℕ = dart_name c plan d in
    let home_x : is_home (links_of L) x ≡ true = home_is_named c plan tiles w x ∙ name_is_name c plan tiles w d h in
    subst (λ z. stands_in x z ≡ true) (order_is_named c plan tiles w)
    (stands_filter (is_home (links_of L)) x (links_of L).darts home_x (darts-stand L x (home_copy_at c plan tiles w d h).has))

-- what the whole says of a name
pub at_name : {X : Type 0} → (c : Primitives) (plan : ℕ → ℕ) (tiles : ℕ) → IsTileable c plan tiles → (g : ℕ → X) (z : X) (d : ℕ)
    → (untiled_links c).has d ≡ true → cond (is_name c plan (dart_name c plan d)) (g (dart_behind c plan (dart_name c plan d))) z ≡ g d
at_name c plan tiles w g z d h =
    ap (λ b. cond b (g (dart_behind c plan (dart_name c plan d))) z) (name_is_name c plan tiles w d h) ∙ ap g (behind_name c plan tiles w d h)

name_sign : (c : Primitives) (plan : ℕ → ℕ) (tiles : ℕ) → IsTileable c plan tiles → (d : ℕ) → (untiled_links c).has d ≡ true
    → sign_in (dart_name c plan d) ≡ sign_in d
name_sign c plan tiles w d h = (home_copy_at c plan tiles w d h).sign

-- the + dart of an edge
record Plus (c : Primitives) (e : ℕ) : Type 0 where
  has : (untiled_links c).has (code 0 e 0) ≡ true
  has_other : (untiled_links c).has (code 0 e 1) ≡ true
  tile : tile_in (code 0 e 0) ≡ 0
  edge : edge_in (code 0 e 0) ≡ e
  sign : sign_in (code 0 e 0) ≡ 0

plus : (c : Primitives) → length c.edges < 2 ^ 24 → (e : ℕ) → IsRowOf (length c.edges) e → Plus c e
plus c few e r = (
    let a = r.0 in
    let b = r.1 in
    let ok : e < 2 ^ 32 = omega arith in
    let h : (untiled_links c).has (code 0 e 0) ≡ true = plus_has c few e a b in
    record {
      has = h;
      has_other = ap (untiled_links c).has (sym (flip-plus e)) ∙ flip-has (untiled c) (code 0 e 0) h;
      tile = code-tile 0 e 0 ok (omega arith);
      edge = code-edge 0 e 0 ok (omega arith);
      sign = code-sign 0 e 0 (omega arith);
    })

plus_stands : (c : Primitives) (plan : ℕ → ℕ) (tiles : ℕ) → IsTileable c plan tiles → (d : ℕ) → (untiled_links c).has d ≡ true → sign_in d ≡ 0
    → stands_in (dart_name c plan d) (plus_darts (whole_named c plan tiles)) ≡ true
plus_stands c plan tiles w d h s =
    stands_filter (λ x. eqb (sign_in x) 0) (dart_name c plan d) (whole_named c plan tiles).order
    (eq-eqb (sign_in (dart_name c plan d)) 0 (name_sign c plan tiles w d h ∙ s)) (name_stands c plan tiles w d h)

-- the number of an edge is the place of the name of its + dart
edge_place : (c : Primitives) (plan : ℕ → ℕ) (tiles : ℕ) → IsTileable c plan tiles → (d : ℕ) → (untiled_links c).has d ≡ true → sign_in d ≡ 0
    → edge_number (whole_named c plan tiles) (dart_name c plan d) ≡ listed_at (dart_name c plan d) (plus_darts (whole_named c plan tiles))
edge_place c plan tiles w d h s =
    ap (λ b. listed_at (cond b (dart_name c plan d) ((whole_named c plan tiles).darts.flip (dart_name c plan d))) (plus_darts (whole_named c plan tiles)))
    (eq-eqb (sign_in (dart_name c plan d)) 0 (name_sign c plan tiles w d h ∙ s))

-- the number of the edge of any dart
edge_of_name : (c : Primitives) (plan : ℕ → ℕ) (tiles : ℕ) → IsTileable c plan tiles → (d : ℕ) → (untiled_links c).has d ≡ true
    → edge_number (whole_named c plan tiles) (dart_name c plan d) ≡ new_edge c plan tiles (edge_in d)
edge_of_name c plan tiles w d h = (
    let W : Whole = whole_named c plan tiles in
    let p : ℕ = code 0 (edge_in d) 0 in
    let is : code 0 (edge_in d) (sign_in d) ≡ d = dart_is c d h in
    elim (sign-cases d) [
      | inl z ↦ ap (λ x. edge_number W (dart_name c plan x)) (sym is ∙ ap (code 0 (edge_in d)) z)
      | inr o ↦ (
          let a : flip d ≡ p = ap flip (sym is ∙ ap (code 0 (edge_in d)) o) ∙ other-code (edge_in d) in
          let hp : (untiled_links c).has p ≡ true = ap (untiled_links c).has (sym a) ∙ flip-has (untiled c) d h in
          let sd : eqb (sign_in (dart_name c plan d)) 0 ≡ false = ap (λ v. eqb v 0) (name_sign c plan tiles w d h ∙ o) in
          ap (λ b. listed_at (cond b (dart_name c plan d) (W.darts.flip (dart_name c plan d))) (plus_darts W)) sd
          ∙ ap (λ x. listed_at x (plus_darts W)) (named_flip c plan tiles w (coverage_map c) d h ∙ ap (dart_name c plan) a)
          ∙ sym (edge_place c plan tiles w p hp (code-sign 0 (edge_in d) 0 (omega arith))))
    ])

pub edges_stay_apart : EdgesStayApart
edges_stay_apart c plan tiles w e f re rf same = (
    let p : Plus c e = plus c w.few e re in
    let q : Plus c f = plus c w.few f rf in
    let places = sym (edge_place c plan tiles w (code 0 e 0) p.has p.sign) ∙ same ∙ edge_place c plan tiles w (code 0 f 0) q.has q.sign in
    let names : dart_name c plan (code 0 e 0) ≡ dart_name c plan (code 0 f 0) =
    place_apart _ _ (plus_darts (whole_named c plan tiles)) (plus_stands c plan tiles w (code 0 e 0) p.has p.sign)
    (plus_stands c plan tiles w (code 0 f 0) q.has q.sign) places in
    sym p.edge ∙ ap edge_in (name_apart c plan tiles w (code 0 e 0) (code 0 f 0) p.has q.has names) ∙ q.edge)

-- the row of an edge under its new number is of the name of its + dart
edge_row_is : (c : Primitives) (plan : ℕ → ℕ) (tiles : ℕ) → IsTileable c plan tiles → (e : ℕ) → IsRowOf (length c.edges) e
    → (k : ℕ) → new_edge c plan tiles e ≡ k → IsRowOf (length (plus_darts (whole_named c plan tiles))) k
    → kth (plus_darts (whole_named c plan tiles)) k 0 ≡ dart_name c plan (code 0 e 0)
    → new_edge_row c plan tiles e ≡ glued_edge (whole_named c plan tiles) (new_edge c plan tiles e) (dart_name c plan (code 0 e 0))
edge_row_is c plan tiles w e r k is row item = (
    let W : Whole = whole_named c plan tiles in
    ap (λ n. kth (numbered (glued_edge W) (plus_darts W)) n absent_edge) is
    ∙ item_numbered (glued_edge W) (plus_darts W) k absent_edge 0 row
    ∙ ap (glued_edge W k) item
    ∙ ap (λ n. glued_edge W n (dart_name c plan (code 0 e 0))) (sym is))

pub edges_are_moved : EdgesAreMoved
edges_are_moved c plan tiles w e r = (
    let W : Whole = whole_named c plan tiles in
    let x : ℕ = dart_name c plan (code 0 e 0) in
    let p : Plus c e = plus c w.few e r in
    let a : Placed x (plus_darts W) = placed x (plus_darts W) (plus_stands c plan tiles w (code 0 e 0) p.has p.sign) in
    let is : new_edge c plan tiles e ≡ listed_at x (plus_darts W) = edge_place c plan tiles w (code 0 e 0) p.has p.sign in
    let many : length (numbered (glued_edge W) (plus_darts W)) ≡ length (plus_darts W) = numbered_many (glued_edge W) 1 (plus_darts W) in
    let row : new_edge_row c plan tiles e ≡ glued_edge W (new_edge c plan tiles e) x =
    edge_row_is c plan tiles w e r (listed_at x (plus_darts W)) is a.row a.item in
    let turned : W.darts.flip x ≡ dart_name c plan (code 0 e 1) =
    named_flip c plan tiles w (coverage_map c) (code 0 e 0) p.has ∙ ap (dart_name c plan) (flip-plus e) in
    record {
      number = subst (λ n. IsRowOf n (new_edge c plan tiles e)) (sym many) (subst (IsRowOf (length (plus_darts W))) (sym is) a.row);
      id = ap (λ v. v.id) row;
      start_node = ap (λ v. v.start_node) row;
      end_node = ap (λ v. v.end_node) row ∙ ap (λ y. plain (node_number W y)) turned;
      right_face = ap (λ v. v.right_face) row ∙ ap plain (face (code 0 e 0) p.has);
      left_face = ap (λ v. v.left_face) row ∙ ap (λ y. plain (face_number W (W.face y))) turned ∙ ap plain (face (code 0 e 1) p.has_other);
      right_edge = ap (λ v. v.right_edge) row ∙ ap plain (next (code 0 e 0) p.has);
      left_edge = ap (λ v. v.left_edge) row ∙ ap (λ y. plain (edge_number W (W.darts.next y))) turned ∙ ap plain (next (code 0 e 1) p.has_other);
      mark =
          ap (λ v. v.mark) row ∙ at_name c plan tiles w (untiled_links c).mark None (code 0 e 0) p.has
          ∙ ap (λ t. (kth (tile_edges (untiled c) t) (edge_in (code 0 e 0)) absent_edge).mark) p.tile ∙ ap (λ n. (kth c.edges n absent_edge).mark) p.edge;
      carried =
          ap (λ v. v.carried) row ∙ at_name c plan tiles w (untiled_links c).carried [] (code 0 e 0) p.has
          ∙ ap (λ t. (kth (tile_edges (untiled c) t) (edge_in (code 0 e 0)) absent_edge).carried) p.tile
          ∙ ap (λ n. (kth c.edges n absent_edge).carried) p.edge;
    })
  where
    next : (d : ℕ) → (untiled_links c).has d ≡ true
        → edge_number (whole_named c plan tiles) ((whole_named c plan tiles).darts.next (dart_name c plan d)) ≡ new_edge c plan tiles (edge_in (next_of c d))
    next d h =
        ap (edge_number (whole_named c plan tiles)) (named_next c plan tiles w (coverage_map c) d h)
        ∙ edge_of_name c plan tiles w (next_of c d) (source_next c w.well_formed d h).has

    face : (d : ℕ) → (untiled_links c).has d ≡ true
        → face_number (whole_named c plan tiles) ((whole_named c plan tiles).face (dart_name c plan d)) ≡ new_face c plan tiles (face_of c d)
    face d h = ap (face_number (whole_named c plan tiles)) (at_name c plan tiles w (λ y. face_place c plan (face_of c y)) None d h)
