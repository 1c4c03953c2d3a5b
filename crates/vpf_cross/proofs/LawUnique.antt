-- A dart has no two copies in one tile.
use Rattle.std.proofs.Common.{◌≡◌, ℕ, ◌<◌, ◌^◌, Bool, true, false, not, eqb, refl, sym, ap, ◌∙◌, subst, inl, inr, ◌⊎◌, arith, Option, Some, None}
use Rattle.std.specs.Prelude.{is_some}
use Rattle.std.proofs.lemmas.Bool.{cases_Bool, and_parts}
use Rattle.vpf_darts.specs.Darts.{code, tile_in, edge_in, flip}
use Rattle.vpf_prims.specs.Primitives.{Library, edge_count, face_count}
use Rattle.vpf_prims.specs.Numbering.{IsRowOf}
use Rattle.vpf_prims.specs.Coverages.{CoverageTables}
use Rattle.vpf_wing.specs.Links.{links_of, Beyond, Link, DartLinks, edge_of_dart, is_minus, wing_by, face_by}
use Rattle.vpf_prims.specs.Libraries.{library_of}
use Rattle.vpf_follow.specs.Following.{beyond_tile, is_own_face, is_far_face, is_inside, is_outside, is_home, is_named, face_name, follow_to, follow, home_copy}
use Rattle.vpf_follow.specs.Sided.{HasSides, HasFollowers}
use Rattle.vpf_follow.specs.Inner.Homes.{HasFewEdges}
use Rattle.vpf_follow.specs.Inner.Laws.{HomesExist}
use Rattle.vpf_wing.specs.Inner.DartLaws.{never_both, none_is_some, same_some, code-tile, flip-flip, flip-tile, flip-has, only-passes}
use Rattle.vpf_follow.specs.Inner.TileLaws.{TileOfDart, dart-tile}
use Rattle.vpf_follow.specs.Inner.FollowLaws.{home_has, home_self, outside_has, away_outside}
use Rattle.vpf_cross.specs.HomeLines.{coverage_links}
use Rattle.vpf_cross.specs.Agreeing.{IsCopy}
use Rattle.vpf_cross.specs.Inner.Laws.{AreNumbered, FlipsBack}
use Rattle.vpf_cross.proofs.LawNumbered.{dart_row, GoesOn, reference_on, reference_here, face_on, wing_named, face_named}

-- each dart has a home copy, and those of both darts of an edge are of one edge
pub record FlipsAgree (L : Library) : Type 0 where
  pub exist : HomesExist
  pub follows : HasFollowers (links_of L)
  pub flips : FlipsBack (links_of L)

only_tile : (p : ℕ → Bool) (t e y : ℕ) → e < 2 ^ 32 → (y ≡ code t e 0) ⊎ (y ≡ flip (code t e 0)) → tile_in y ≡ t
only_tile p t e y small (inl same) = ap tile_in same ∙ code-tile t e 0 small (omega arith)
only_tile p t e y small (inr same) = ap tile_in same ∙ flip-tile (code t e 0) ∙ code-tile t e 0 small (omega arith)

-- what follows a dart is in the dart's tile, or in the one of its wing's external part
to_plain : (C : DartLinks) (tile edge node : ℕ) (face w v : Option Beyond) (y : ℕ) → w ≡ None → edge < 2 ^ 32 → follow_to C tile edge node face w v ≡ Some y
    → tile_in y ≡ tile
to_plain C tile edge node face None v y e small f =
    only_tile (is_named C node face) tile edge y small ((only-passes (is_named C node face) (code tile edge 0) y f).1)
to_plain C tile edge node face (Some w) v y e small f = absurd (none_is_some w (sym e))

to_out : (C : DartLinks) (tile edge node : ℕ) (face o v : Option Beyond) (w : Beyond) (y : ℕ) → o ≡ Some w → w.id < 2 ^ 32
    → follow_to C tile edge node face o v ≡ Some y
    → tile_in y ≡ w.tile
to_out C tile edge node face None v w y e small f = absurd (none_is_some w e)
to_out C tile edge node face (Some x) None w y e small f = absurd (none_is_some y f)
to_out C tile edge node face (Some x) (Some v) w y e small f =
    let same = same_some x w e in
    let small' : x.id < 2 ^ 32 = subst (λ (b : Beyond). b.id < 2 ^ 32) (sym same) small in
    elim (cases_Bool (eqb x.tile v.tile)) [
      | inl t ↦ (
          let f' = rw t at f in
          only_tile (is_named C v.id face) x.tile x.id y small' ((only-passes (is_named C v.id face) (code x.tile x.id 0) y f').1)
          ∙ ap (λ (b : Beyond). b.tile) same)
      | inr n ↦ (let f' = rw n at f in absurd (none_is_some y f'))
    ]

follow_plain : (C : DartLinks) (d y : ℕ) → (C.wing d).out ≡ None → (C.wing d).id < 2 ^ 32 → follow C d ≡ Some y → tile_in y ≡ tile_in d
unfolding follow
follow_plain C d y e small f = to_plain C (tile_in d) (C.wing d).id (C.node d).id (face_name C d) (C.wing d).out (C.node d).out y e small f

follow_out : (C : DartLinks) (d y : ℕ) (w : Beyond) → (C.wing d).out ≡ Some w → w.id < 2 ^ 32 → follow C d ≡ Some y → tile_in y ≡ w.tile
unfolding follow
follow_out C d y w e small f = to_out C (tile_in d) (C.wing d).id (C.node d).id (face_name C d) (C.wing d).out (C.node d).out w y e small f

-- a face of another tile
far_part : (f : Link) → is_far_face f ≡ true → (is_own_face f ≡ false) × ((p : Beyond) × (f.out ≡ Some p))
far_part f h =
    let q = and_parts (eqb f.id 1) (is_some f.out) h in
    (ap not q.0, some_part f.out q.1)
  where
    some_part : (o : Option Beyond) → is_some o ≡ true → (p : Beyond) × (o ≡ Some p)
    some_part None g = absurd (never_both false g refl)
    some_part (Some p) g = (p, refl)

part_tile : (o : Option Beyond) (t : ℕ) → beyond_tile o ≡ Some t → (w : Beyond) × (o ≡ Some w) × (w.tile ≡ t)
part_tile None t h = absurd (none_is_some t h)
part_tile (Some w) t h = (w, refl, same_some w.tile t h)

-- what the rows of a coverage say of a dart whose face is of another tile, and of one that goes on in its own
outside_goes : (c : CoverageTables) → HasFewEdges (library_of c) → AreNumbered (library_of c) → HasSides (coverage_links c) → (d y : ℕ)
    → is_outside (coverage_links c) d ≡ true
    → follow (coverage_links c) d ≡ Some y → tile_in y ≡ tile_in d → ⊥
outside_goes c few numbered s d y out f same =
    let L : Library = library_of c in
    let C : DartLinks = coverage_links c in
    let has : (coverage_links c).has d ≡ true = outside_has C d out in
    let i : TileOfDart c d = dart-tile c d has in
    let row = dart_row c numbered d has i.tables i.at in
    let far = far_part (C.face d) ((and_parts (C.has d) (is_far_face (C.face d)) out).1) in
    let p : (p : Beyond) × (((coverage_links c).face d).out ≡ Some p) = far.1 in
    let beyond : GoesOn (library_of c) (face_count (library_of c)) (tile_in d) (face_by (is_minus d) (edge_of_dart (library_of c) d)) p.0 =
    face_on L (tile_in d) (face_by (is_minus d) (edge_of_dart L d)) p.0 (face_named L (tile_in d) (edge_in d) (edge_of_dart L d) (is_minus d) row) p.1 in
    let w : (w : Beyond) × (((coverage_links c).wing d).out ≡ Some w) × (w.tile ≡ p.0.tile) =
    part_tile (C.wing d).out p.0.tile (s.outside_part d out ∙ ap beyond_tile p.1) in
    let on : GoesOn (library_of c) (edge_count (library_of c)) (tile_in d) (wing_by (is_minus d) (edge_of_dart (library_of c) d)) w.0 =
    reference_on L (edge_count L) (tile_in d) (wing_by (is_minus d) (edge_of_dart L d)) w.0
    (wing_named L (tile_in d) (edge_in d) (edge_of_dart L d) (is_minus d) row) w.1 in
    let most = on.row.1 in
    let fewer : edge_count (library_of c) w.0.tile < 2 ^ 24 = few w.0.tile in
    let small : w.0.id < 2 ^ 32 = omega arith in
    beyond.other (sym w.2 ∙ sym (follow_out C d y w.0 w.1 small f) ∙ same)

inside_goes : (c : CoverageTables) → HasFewEdges (library_of c) → AreNumbered (library_of c) → HasSides (coverage_links c) → (d y : ℕ)
    → (coverage_links c).has d ≡ true
    → is_inside (coverage_links c) d ≡ true → follow (coverage_links c) d ≡ Some y → tile_in y ≡ tile_in d
inside_goes c few numbered s d y has own f =
    let L : Library = library_of c in
    let C : DartLinks = coverage_links c in
    let i : TileOfDart c d = dart-tile c d has in
    let row = dart_row c numbered d has i.tables i.at in
    let here : IsRowOf (edge_count (library_of c) (tile_in d)) ((coverage_links c).wing d).id =
    reference_here L (edge_count L) (tile_in d) (wing_by (is_minus d) (edge_of_dart L d))
    (wing_named L (tile_in d) (edge_in d) (edge_of_dart L d) (is_minus d) row) in
    let most = here.1 in
    let fewer : edge_count (library_of c) (tile_in d) < 2 ^ 24 = few (tile_in d) in
    let small : ((coverage_links c).wing d).id < 2 ^ 32 = omega arith in
    follow_plain C d y (s.inside_plain d has own) small f

-- a home dart and an outside dart of one tile aren't copies of one dart
home_and_outside : (c : CoverageTables) → HasFewEdges (library_of c) → AreNumbered (library_of c) → HasSides (coverage_links c) → FlipsAgree (library_of c)
    → (e x : ℕ)
    → is_home (coverage_links c) e ≡ true → is_outside (coverage_links c) x ≡ true → tile_in e ≡ tile_in x → home_copy (coverage_links c) x ≡ e → ⊥
home_and_outside c few numbered s a e x home out tile is =
    let L : Library = library_of c in
    let C : DartLinks = coverage_links c in
    let has : (coverage_links c).has e ≡ true = home_has C e home in
    let turned : (coverage_links c).has (flip e) ≡ true = flip-has L e has in
    let back : home_copy (coverage_links c) (flip e) ≡ flip x = ap (λ z. home_copy C (flip z)) (sym is) ∙ a.flips x out in
    elim (cases_Bool (is_home C (flip e))) [
      | inl h ↦ (
          let same : flip e ≡ flip x = sym (home_self C (flip e) h) ∙ back in
          let one : e ≡ x = sym (flip-flip e) ∙ ap flip same ∙ flip-flip x in
          let far = (and_parts (C.has x) (is_far_face (C.face x)) out).1 in
          let near = (and_parts (C.has e) (not (is_far_face (C.face e))) home).1 in
          never_both (not (is_far_face (C.face e))) near (ap not (ap (λ z. is_far_face (C.face z)) one ∙ far)))
      | inr away ↦ (
          let there = away_outside C (flip e) turned away in
          let far = far_part (C.face (flip e)) ((and_parts (C.has (flip e)) (is_far_face (C.face (flip e))) there).1) in
          let own : is_inside (coverage_links c) e ≡ true = ap (is_inside C) (sym (flip-flip e)) ∙ s.one_inside (flip e) turned far.0 in
          let y : (y : ℕ) × (follow (coverage_links c) e ≡ Some y) = a.follows.follows e has in
          let follows : follow (coverage_links c) x ≡ Some y.0 = sym (a.exist L a.follows x (outside_has C x out)).follows ∙ ap (follow C) is ∙ y.1 in
          outside_goes c few numbered s x y.0 out follows (inside_goes c few numbered s e y.0 has own y.1 ∙ tile))
    ]

both_outside : (C : DartLinks) (e x : ℕ) → home_copy C (flip (home_copy C e)) ≡ flip e → home_copy C (flip (home_copy C x)) ≡ flip x
    → home_copy C e ≡ home_copy C x → e ≡ x
both_outside C e x fe fx h =
    let same : flip e ≡ flip x = sym fe ∙ ap (λ z. home_copy C (flip z)) h ∙ fx in
    sym (flip-flip e) ∙ ap flip same ∙ flip-flip x

pub one_copy : (c : CoverageTables) → HasFewEdges (library_of c) → AreNumbered (library_of c) → HasSides (coverage_links c) → FlipsAgree (library_of c)
    → (t d e x : ℕ)
    → IsCopy (coverage_links c) t d e → IsCopy (coverage_links c) t d x → e ≡ x
one_copy c few numbered s a t d e x ce cx =
    let C : DartLinks = coverage_links c in
    let h : home_copy (coverage_links c) e ≡ home_copy (coverage_links c) x = ce.home ∙ sym cx.home in
    let tile : tile_in e ≡ tile_in x = ce.tile ∙ sym cx.tile in
    elim (cases_Bool (is_home C e)) [
      | inl he ↦ (elim (cases_Bool (is_home C x)) [
        | inl hx ↦ sym (home_self C e he) ∙ h ∙ home_self C x hx
        | inr ax ↦ absurd (home_and_outside c few numbered s a e x he (away_outside C x cx.has ax) tile (sym h ∙ home_self C e he))
      ])
      | inr ae ↦ (elim (cases_Bool (is_home C x)) [
        | inl hx ↦ absurd (home_and_outside c few numbered s a x e hx (away_outside C e ce.has ae) (sym tile) (h ∙ home_self C x hx))
        | inr ax ↦ both_outside C e x (a.flips e (away_outside C e ce.has ae)) (a.flips x (away_outside C x cx.has ax)) h
      ])
    ]
