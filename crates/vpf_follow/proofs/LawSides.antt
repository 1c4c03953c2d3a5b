-- There is no finding on the sides of edges exactly where they name tiles as they should.
use Rattle.std.proofs.Common.{◌≡◌, ◌≢◌, ℕ, Bool, true, false, not, sym, ap, ◌∙◌, subst, Option, None}
use Rattle.std.proofs.lemmas.Bool.{and_parts, and_from}
use Rattle.vpf_darts.specs.Darts.{code, tile_in, edge_in, sign_of, flip}
use Rattle.vpf_findings.specs.Findings.{Disagreement}
use Rattle.vpf_findings.specs.Firsts.{◌or◌}
use Rattle.vpf_findings.specs.Inner.FirstLaws.{or-none_both}
use Rattle.vpf_prims.specs.References.{id_of}
use Rattle.vpf_prims.specs.Lists.{kth}
use Rattle.vpf_prims.specs.Primitives.{EdgePrimitive, Library, absent_edge, tile_edges, own_edge}
use Rattle.vpf_prims.specs.Reading.{primitives_of}
use Rattle.vpf_prims.specs.Tables.{TileTables}
use Rattle.vpf_prims.specs.Coverages.{CoverageTables}
use Rattle.vpf_wing.specs.Links.{Link, link_of, links_of, edge_of_dart, is_minus, wing_by, node_by, face_by}
use Rattle.vpf_wing.specs.CycleLines.{loop_line}
use Rattle.vpf_wing.specs.WellFormed.{HasLoops}
use Rattle.vpf_prims.specs.Libraries.{library_of}
use Rattle.vpf_follow.specs.Following.{beyond_tile, is_own_face, is_far_face}
use Rattle.vpf_follow.specs.Sided.{HasSides}
use Rattle.vpf_follow.specs.SideLines.{part_line, inside_line, inside_wing_line, outside_wing_line, side_wing_lines, side_lines, sides_finding}
use Rattle.vpf_follow.specs.Inner.Laws.{SidesDecide}
use Rattle.vpf_wing.specs.Inner.DartLaws.{flip-tile, flip-edge, flip-flip, flip-minus, minus-code}
use Rattle.vpf_follow.specs.Inner.TileLaws.{TileOfDart, dart-tile, DartOfEdge, edge-dart, unless-none, unless-true, or-silent, tiles-none, tiles-silent, edges-none, edges-silent, options-same, same-options}
use Rattle.vpf_follow.proofs.LawFacts.{of_both, right_of, left_of, either_of, implied, implies, none_of, of_none, excluded, excludes}

-- a loop has two faces, seen from one of its darts
abbrev pub HasTwoFaces : EdgePrimitive → Bool → Type 0
HasTwoFaces e m = id_of (node_by (not m) e) ≡ id_of (node_by m e) → id_of (face_by m e) ≢ id_of (face_by (not m) e)

-- what the row of an edge says of one of its darts
pub record IsSided (e : EdgePrimitive) (m : Bool) : Type 0 where
  pub part : beyond_tile (link_of (node_by m e)).out ≡ beyond_tile (link_of (wing_by m e)).out
  pub one : is_own_face (link_of (face_by m e)) ≡ false → is_own_face (link_of (face_by (not m) e)) ≡ true
  pub loop : HasTwoFaces e m
  pub plain : is_own_face (link_of (face_by m e)) ≡ true → (link_of (wing_by m e)).out ≡ None
  pub outer : is_far_face (link_of (face_by m e)) ≡ true → beyond_tile (link_of (wing_by m e)).out ≡ beyond_tile (link_of (face_by m e)).out

pub loop_none : (t : ℕ) (T : TileTables) (k : ℕ) (e : EdgePrimitive) → loop_line t T k (own_edge e) ≡ None → (m : Bool) → HasTwoFaces e m
loop_none t T k e none = of_both (HasTwoFaces e)
    (λ tails faces. excluded _ _ _ _ (unless-none _ _ none) (sym tails) (sym faces))
    (λ tails faces. excluded _ _ _ _ (unless-none _ _ none) tails faces)

pub loop_silent : (t : ℕ) (T : TileTables) (k : ℕ) (e : EdgePrimitive) → HasTwoFaces e false → loop_line t T k (own_edge e) ≡ None
loop_silent t T k e h = unless-true _ _ (excludes _ _ _ _ h)

wings_none : (t : ℕ) (T : TileTables) (k : ℕ) (m : Bool) (e : EdgePrimitive) → side_wing_lines t T k m e ≡ None
    → (is_own_face (link_of (face_by m e)) ≡ true → (link_of (wing_by m e)).out ≡ None)
    × (is_far_face (link_of (face_by m e)) ≡ true → beyond_tile (link_of (wing_by m e)).out ≡ beyond_tile (link_of (face_by m e)).out)
wings_none t T k m e none =
    let both = or-none_both (inside_wing_line t T k m e) (outside_wing_line t T k m e) none in (
      λ own. none_of (link_of (wing_by m e)).out (implied (is_own_face (link_of (face_by m e))) _ (unless-none _ _ both.0) own),
      λ far. options-same _ _ (implied (is_far_face (link_of (face_by m e))) _ (unless-none _ _ both.1) far),
    )

wings_silent : (t : ℕ) (T : TileTables) (k : ℕ) (m : Bool) (e : EdgePrimitive) → IsSided e m → side_wing_lines t T k m e ≡ None
wings_silent t T k m e s = or-silent (inside_wing_line t T k m e) (outside_wing_line t T k m e)
    (unless-true _ _ (implies (is_own_face (link_of (face_by m e))) _ (λ own. of_none (link_of (wing_by m e)).out (s.plain own))))
    (unless-true _ _ (implies (is_far_face (link_of (face_by m e))) _ (λ far. same-options _ _ (s.outer far))))

-- the lines of an edge that say nothing, one by one
record NoSides (t : ℕ) (T : TileTables) (k : ℕ) (e : EdgePrimitive) : Type 0 where
  part : (m : Bool) → part_line t T k m e ≡ None
  inside : inside_line t T k e ≡ None
  loop : loop_line t T k (own_edge e) ≡ None
  wings : (m : Bool) → side_wing_lines t T k m e ≡ None

no_sides : (t : ℕ) (T : TileTables) (k : ℕ) (e : EdgePrimitive) → side_lines t T k e ≡ None → NoSides t T k e
no_sides t T k e none =
    let wings : Option Disagreement = side_wing_lines t T k false e or side_wing_lines t T k true e in
    let a = or-none_both (part_line t T k true e) (part_line t T k false e or inside_line t T k e or loop_line t T k (own_edge e) or wings) none in
    let b = or-none_both (part_line t T k false e) (inside_line t T k e or loop_line t T k (own_edge e) or wings) a.1 in
    let c = or-none_both (inside_line t T k e) (loop_line t T k (own_edge e) or wings) b.1 in
    let d = or-none_both (loop_line t T k (own_edge e)) wings c.1 in
    let f = or-none_both (side_wing_lines t T k false e) (side_wing_lines t T k true e) d.1 in
    record {
      part = of_both (λ m. part_line t T k m e ≡ None) a.0 b.0;
      inside = c.0;
      loop = d.0;
      wings = of_both (λ m. side_wing_lines t T k m e ≡ None) f.1 f.0;
    }

sides_said : (t : ℕ) (T : TileTables) (k : ℕ) (e : EdgePrimitive) → NoSides t T k e → (m : Bool) → IsSided e m
sides_said t T k e n m =
    let w = wings_none t T k m e (n.wings m) in
    record {
      part = options-same _ _ (unless-none _ _ (n.part m));
      one = of_both (λ m. is_own_face (link_of (face_by m e)) ≡ false → is_own_face (link_of (face_by (not m) e)) ≡ true)
          (right_of (is_own_face (link_of e.right_face)) (is_own_face (link_of e.left_face)) (unless-none _ _ n.inside))
          (left_of (is_own_face (link_of e.right_face)) (is_own_face (link_of e.left_face)) (unless-none _ _ n.inside)) m;
      loop = loop_none t T k e n.loop m;
      plain = w.0;
      outer = w.1;
    }

sides_silent : (t : ℕ) (T : TileTables) (k : ℕ) (e : EdgePrimitive) → ((m : Bool) → IsSided e m) → side_lines t T k e ≡ None
sides_silent t T k e s =
    let plus : IsSided e false = s false in
    let minus : IsSided e true = s true in
    let inside : inside_line t T k e ≡ None =
    unless-true _ _ (either_of (is_own_face (link_of e.right_face)) (is_own_face (link_of e.left_face)) plus.one) in
    let wings : (side_wing_lines t T k false e or side_wing_lines t T k true e) ≡ None =
    or-silent (side_wing_lines t T k false e) (side_wing_lines t T k true e) (wings_silent t T k false e plus) (wings_silent t T k true e minus) in
    or-silent (part_line t T k true e) _ (unless-true _ _ (same-options _ _ minus.part))
    (or-silent (part_line t T k false e) _ (unless-true _ _ (same-options _ _ plus.part))
    (or-silent (inside_line t T k e) _ inside (or-silent (loop_line t T k (own_edge e)) _ (loop_silent t T k e plus.loop) wings)))

-- the other dart of the edge has the same row
pub flip_row : (L : Library) (d : ℕ) → edge_of_dart L (flip d) ≡ edge_of_dart L d
flip_row L d =
    ap (λ t. kth (tile_edges L t) (edge_in (flip d)) absent_edge) (flip-tile d)
    ∙ ap (λ k. kth (tile_edges L (tile_in d)) k absent_edge) (flip-edge d)

pub flip_face : (L : Library) (d : ℕ) → (links_of L).face (flip d) ≡ link_of (face_by (not (is_minus d)) (edge_of_dart L d))
flip_face L d =
    ap (λ m. link_of (face_by m (edge_of_dart L (flip d)))) (flip-minus d)
    ∙ ap (λ e. link_of (face_by (not (is_minus d)) e)) (flip_row L d)

pub flip_node : (L : Library) (d : ℕ) → (links_of L).node (flip d) ≡ link_of (node_by (not (is_minus d)) (edge_of_dart L d))
flip_node L d =
    ap (λ m. link_of (node_by m (edge_of_dart L (flip d)))) (flip-minus d)
    ∙ ap (λ e. link_of (node_by (not (is_minus d)) e)) (flip_row L d)

abbrev pub EachDart : Library → (EdgePrimitive → Bool → Type 0) → Type 0
EachDart L P = (d : ℕ) → (links_of L).has d ≡ true → P (edge_of_dart L d) (is_minus d)

pub has_loops : (L : Library) → EachDart L HasTwoFaces → HasLoops (links_of L)
has_loops L all d has tails faces =
    all d has (sym (ap (λ (l : Link). l.id) (flip_node L d)) ∙ tails ∙ ap (λ x. ((links_of L).node x).id) (flip-flip d))
    (faces ∙ ap (λ (l : Link). l.id) (flip_face L d))

pub loops_have : (L : Library) → HasLoops (links_of L) → EachDart L HasTwoFaces
loops_have L loops d has tails faces =
    loops d has (ap (λ (l : Link). l.id) (flip_node L d) ∙ tails ∙ sym (ap (λ x. ((links_of L).node x).id) (flip-flip d)))
    (faces ∙ sym (ap (λ (l : Link). l.id) (flip_face L d)))

has_sides : (L : Library) → EachDart L IsSided → HasSides (links_of L)
has_sides L all = record {
  one_inside = λ d has out. subst (λ f. is_own_face f ≡ true) (sym (flip_face L d)) ((all d has).one out);
  loops = has_loops L (λ d has. (all d has).loop);
  inside_plain = λ d has own. (all d has).plain own;
  outside_part = λ d out. (let q = and_parts ((links_of L).has d) (is_far_face ((links_of L).face d)) out in (all d q.0).outer q.1);
  same_part = λ d has. (all d has).part;
}

sides_have : (L : Library) → HasSides (links_of L) → EachDart L IsSided
sides_have L s d has = record {
  part = s.same_part d has;
  one = λ out. subst (λ f. is_own_face f ≡ true) (flip_face L d) (s.one_inside d has out);
  loop = loops_have L s.loops d has;
  plain = λ own. s.inside_plain d has own;
  outer = λ far. s.outside_part d (and_from ((links_of L).has d) (is_far_face ((links_of L).face d)) has far);
}

-- what is so of each dart is so of both darts of each row
pub of_row : (c : CoverageTables) (P : EdgePrimitive → Bool → Type 0) → EachDart (library_of c) P → (t : ℕ) (T : TileTables) (k : ℕ) (m : Bool)
    → DartOfEdge c t T k m → P (kth (primitives_of T.tables).edges k absent_edge) m
of_row c P all t T k m r =
    subst (λ e. P e m) r.edge
    (subst (P (edge_of_dart (library_of c) (code t k (sign_of m)))) (minus-code t k m) (all (code t k (sign_of m)) r.has))

pub sides_decide : SidesDecide
sides_decide c few = (
  λ none. has_sides (library_of c) (λ d has. (
      let i : TileOfDart c d = dart-tile c d has in
      let here : sides_finding (tile_in d) i.tables ≡ None = tiles-none sides_finding c none (tile_in d) i.tables i.at in
      let lines = edges-none (λ k. side_lines (tile_in d) i.tables k (kth (primitives_of i.tables.tables).edges k absent_edge)) i.tables here
      (edge_in d) i.from_one i.to_count in
      let said = sides_said (tile_in d) i.tables (edge_in d) _ (no_sides (tile_in d) i.tables (edge_in d) _ lines) (is_minus d) in
      subst (λ e. IsSided e (is_minus d)) (sym i.edge) said)),
  λ h. tiles-silent sides_finding c (λ t T e.
      edges-silent (λ k. side_lines t T k (kth (primitives_of T.tables).edges k absent_edge)) T (λ k low high.
      sides_silent t T k _ (λ m. of_row c IsSided (sides_have (library_of c) h) t T k m (edge-dart c t T k m (few t) e low high)))),
)
