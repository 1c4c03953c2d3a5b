-- There is no finding on turning exactly where the tiles turn about their nodes as the whole coverage does.
use Rattle.std.proofs.Common.{◌≡◌, ℕ, zero, suc, ◌+◌, ◌<◌, Bool, true, false, eqb, ◌&&◌, refl, sym, ap, ◌∙◌, subst, inl, inr, arith, Option, Some, None, length}
use Rattle.std.proofs.lemmas.Bool.{and_parts, and_from, eqb-true, eq-eqb}
use Rattle.vpf_darts.specs.Darts.{code, tile_in, edge_in, sign_of, flip}
use Rattle.vpf_darts.specs.Inner.Laws.{DartLiesOnCycle}
use Rattle.vpf_prims.specs.Primitives.{Library}
use Rattle.vpf_prims.specs.Tables.{TileTables}
use Rattle.vpf_prims.specs.Coverages.{CoverageTables}
use Rattle.vpf_wing.specs.Links.{DartLinks, links_of, is_minus, local_next}
use Rattle.vpf_prims.specs.Libraries.{library_of}
use Rattle.vpf_follow.specs.Following.{is_home, follow, home_copy}
use Rattle.vpf_follow.specs.Inner.Homes.{HasFewEdges}
use Rattle.vpf_follow.specs.Inner.Laws.{HomesExist}
use Rattle.vpf_wing.specs.Inner.DartLaws.{some-or-none, none_is_some, same_some, code-minus, darts-stand, stands-has, found-passes, found-some}
use Rattle.vpf_follow.specs.Inner.TileLaws.{TileOfDart, dart-tile, DartOfEdge, edge-dart, unless-none, unless-true, darts-none, darts-silent}
use Rattle.vpf_follow.specs.Inner.FollowLaws.{follow_home}
use Rattle.vpf_cross.specs.HomeLines.{coverage_links}
use Rattle.vpf_cross.specs.RoundLines.{copy_in_tile, first_copy, first_copy_line, round_line}
use Rattle.vpf_cross.specs.Agreeing.{IsCopy, IsFirstCopy, GoesOnHere}
use Rattle.vpf_cross.specs.Inner.Laws.{RoundsDecide}
use Rattle.vpf_cross.proofs.LawNumbered.{tile_has_tables}
use Rattle.vpf_cross.proofs.LawWalks.{after}
use Rattle.vpf_cross.proofs.LawTurns.{Agreed, turning, follow_turn, turns_home, is_last_turn, IsLastTurn, last_turn, WalkRound, walk_round}
use Rattle.vpf_cross.proofs.LawMap.{is_map}
use Rattle.vpf_cross.proofs.LawUnique.{FlipsAgree, one_copy}

-- the test of a copy in a tile
abbrev tests_copy : DartLinks → (t y e : ℕ) → Bool
tests_copy C t y e = eqb (tile_in e) t && eqb (home_copy C e) (home_copy C y)

copy_tested : (C : DartLinks) (t y e : ℕ) → IsCopy C t y e → tests_copy C t y e ≡ true
copy_tested C t y e c = and_from (eqb (tile_in e) t) (eqb (home_copy C e) (home_copy C y)) (eq-eqb _ _ c.tile) (eq-eqb _ _ c.home)

-- where there is a copy, one is found, and what is found is one
pub copy_found : (L : Library) (t y e : ℕ) → IsCopy (links_of L) t y e → (w : ℕ) × (copy_in_tile (links_of L) t y ≡ Some w)
unfolding copy_in_tile
copy_found L t y e c = found-some (tests_copy (links_of L) t y) e (copy_tested (links_of L) t y e c) (links_of L).darts (darts-stand L e c.has)

pub found_copy : (c : CoverageTables) → HasFewEdges (library_of c) → (t y e : ℕ) → copy_in_tile (coverage_links c) t y ≡ Some e
    → IsCopy (coverage_links c) t y e
unfolding copy_in_tile
found_copy c few t y e h =
    let C : DartLinks = coverage_links c in
    let p = found-passes (tests_copy C t y) C.darts e h in
    let q = and_parts (eqb (tile_in e) t) (eqb (home_copy C e) (home_copy C y)) p.0 in
    record { has = stands-has (library_of c) few e p.1; tile = eqb-true _ _ q.0; home = eqb-true _ _ q.1 }

-- the first copy that is found is the first there is
first_is : (c : CoverageTables) → HasFewEdges (library_of c) → (t n x e : ℕ) → first_copy (coverage_links c) t n (Some x) ≡ Some e
    → (k : ℕ) × IsFirstCopy (coverage_links c) t k x e
first_is c few t zero x e h = absurd (none_is_some e h)
first_is c few t (suc n) x e h =
    let C : DartLinks = coverage_links c in
    elim (some-or-none (copy_in_tile C t x)) [
      | inl v ↦ (
          let h' = rw v.1 at h in
          let same : v.0 ≡ e = same_some v.0 e h' in
          (0, found_copy c few t x e (v.1 ∙ ap Some same)))
      | inr none ↦ (
          let h' = rw none at h in
          let y : (y : ℕ) × (follow (coverage_links c) (flip x) ≡ Some y) = goes_on n (follow C (flip x)) h' in
          let rest : first_copy (coverage_links c) t n (Some y.0) ≡ Some e = ap (first_copy C t n) (sym y.1) ∙ h' in
          let r : (k : ℕ) × IsFirstCopy (coverage_links c) t k y.0 e = first_is c few t n y.0 e rest in
          (suc r.0, (no_copy none, (y.0, y.1, r.1))))
    ]
  where
    goes_on : (n : ℕ) (o : Option ℕ) → first_copy (coverage_links c) t n o ≡ Some e → (y : ℕ) × (o ≡ Some y)
    goes_on zero o g = absurd (none_is_some e g)
    goes_on (suc n) None g = absurd (none_is_some e g)
    goes_on (suc n) (Some y) g = (y, refl)

    no_copy : copy_in_tile (coverage_links c) t x ≡ None → (z : ℕ) → IsCopy (coverage_links c) t x z → ⊥
    no_copy none z copy = let w = copy_found (library_of c) t x z copy in none_is_some w.0 (sym none ∙ w.1)

-- there are no two first copies
first_same : (C : DartLinks) (t : ℕ) → ((d e x : ℕ) → IsCopy C t d e → IsCopy C t d x → e ≡ x) → (j k d e x : ℕ) → IsFirstCopy C t j d e
    → IsFirstCopy C t k d x → e ≡ x
first_same C t one zero zero d e x a b = one d e x a b
first_same C t one zero (suc k) d e x a b = absurd (b.0 e a)
first_same C t one (suc j) zero d e x a b = absurd (a.0 x b)
first_same C t one (suc j) (suc k) d e x a b =
    let y = a.1 in
    let z = b.1 in
    let same : z.0 ≡ y.0 = same_some z.0 y.0 (sym z.1 ∙ y.1) in
    first_same C t one j k y.0 e x y.2 (subst (λ w. IsFirstCopy C t k w x) same z.2)

-- a walk that comes to a dart with a copy finds one
walk_finds : (L : Library) → Agreed L → (t n k x w : ℕ) → k < n → is_home (links_of L) x ≡ true → copy_in_tile (links_of L) t (after (turning L) k x) ≡ Some w
    → (e : ℕ) × (first_copy (links_of L) t n (Some x) ≡ Some e)
unfolding after
walk_finds L a t zero k x w lt home h = absurd (omega arith)
walk_finds L a t (suc n) zero x w lt home h = (w, rw h refl)
walk_finds L a t (suc n) (suc k) x w lt home h =
    let C : DartLinks = links_of L in
    elim (some-or-none (copy_in_tile C t x)) [
      | inl v ↦ (v.0, rw v.1 refl)
      | inr none ↦ (
          let m = is_map a.exist L a.follows a.homes in
          let r : (e : ℕ) × (first_copy (links_of L) t n (Some (turning L x)) ≡ Some e) =
          walk_finds L a t n k (turning L x) w (omega arith) (turns_home L m 1 x home) h in
          (r.0, rw none (ap (first_copy C t n) (follow_turn L a x home) ∙ r.1)))
    ]

-- so one is found from what follows a dart
finds : DartLiesOnCycle → (L : Library) → Agreed L → (d y : ℕ) → (links_of L).has d ≡ true → follow (links_of L) d ≡ Some y
    → (e : ℕ) × (first_copy (links_of L) (tile_in d) (length (links_of L).darts + 1) (Some y) ≡ Some e)
finds law L a d y has f =
    let C : DartLinks = links_of L in
    let home : is_home (links_of L) y ≡ true = follow_home C d y f in
    let last : IsLastTurn L d y = is_last_turn L a d y has f in
    let walk : WalkRound L d y = walk_round law L a d y home last in
    let few = walk.few in
    let w : (w : ℕ) × (copy_in_tile (links_of L) (tile_in d) (last_turn L d) ≡ Some w) = copy_found L (tile_in d) (last_turn L d) (flip d) last.copy in
    walk_finds L a (tile_in d) (length C.darts + 1) walk.steps y w.0 (omega arith) home (ap (copy_in_tile C (tile_in d)) walk.comes ∙ w.1)

line_none : (t : ℕ) (T : TileTables) (k : ℕ) (m : Bool) (next copy : Option ℕ) (e w : ℕ) → next ≡ Some e → copy ≡ Some w
    → first_copy_line t T k m next copy ≡ None → e ≡ w
line_none t T k m next copy e w n c none =
    eqb-true e w (unless-none (eqb e w) _ (ap (first_copy_line t T k m (Some e)) (sym c) ∙ ap (λ o. first_copy_line t T k m o copy) (sym n) ∙ none))

line_silent : (t : ℕ) (T : TileTables) (k : ℕ) (m : Bool) (next copy : Option ℕ) (e : ℕ) → next ≡ Some e → ((w : ℕ) → copy ≡ Some w → e ≡ w)
    → first_copy_line t T k m next copy ≡ None
line_silent t T k m None copy e n h = refl
line_silent t T k m (Some x) None e n h = refl
line_silent t T k m (Some x) (Some w) e n h = unless-true (eqb x w) _ (eq-eqb x w (same_some x e n ∙ h w refl))

-- the line on a dart
abbrev line_of : CoverageTables → (t : ℕ) → TileTables → (k : ℕ) → Bool → ℕ → Type 0
line_of c t T k m d =
    first_copy_line t T k m (local_next (coverage_links c) d)
    (first_copy (coverage_links c) t (length (coverage_links c).darts + 1) (follow (coverage_links c) d)) ≡ None

goes_on_here : DartLiesOnCycle → (c : CoverageTables) → HasFewEdges (library_of c) → Agreed (library_of c)
    → (t : ℕ) (T : TileTables) (k : ℕ) (m : Bool) (d e : ℕ)
    → tile_in d ≡ t → (coverage_links c).has d ≡ true → local_next (coverage_links c) d ≡ Some e → line_of c t T k m d → GoesOnHere (coverage_links c) d
goes_on_here law c few a t T k m d e tile has next none =
    let C : DartLinks = coverage_links c in
    let y : (y : ℕ) × (follow (coverage_links c) d ≡ Some y) = a.follows.follows d has in
    let w : (w : ℕ) × (first_copy (coverage_links c) (tile_in d) (length (coverage_links c).darts + 1) (Some y.0) ≡ Some w) =
    finds law (library_of c) a d y.0 has y.1 in
    let copy : first_copy (coverage_links c) t (length (coverage_links c).darts + 1) (follow (coverage_links c) d) ≡ Some w.0 =
    ap (first_copy C t (length C.darts + 1)) y.1 ∙ ap (λ s. first_copy C s (length C.darts + 1) (Some y.0)) (sym tile) ∙ w.1 in
    let same : e ≡ w.0 = line_none t T k m (local_next C d) _ e w.0 next copy none in
    let first : (j : ℕ) × IsFirstCopy (coverage_links c) (tile_in d) j y.0 w.0 = first_is c few (tile_in d) (length C.darts + 1) y.0 w.0 w.1 in
    record { followed = y.0; next = w.0; steps = first.0; follows = y.1; goes = next ∙ ap Some same; first = first.1 }

here_silent : (c : CoverageTables) → HasFewEdges (library_of c) → (t : ℕ) (T : TileTables) (k : ℕ) (m : Bool) (d : ℕ) → tile_in d ≡ t
    → ((y e x : ℕ) → IsCopy (coverage_links c) (tile_in d) y e → IsCopy (coverage_links c) (tile_in d) y x → e ≡ x) → GoesOnHere (coverage_links c) d
    → line_of c t T k m d
here_silent c few t T k m d tile one g =
    let C : DartLinks = coverage_links c in
    line_silent t T k m (local_next C d) (first_copy C t (length C.darts + 1) (follow C d)) g.next g.goes (λ w copy. (
    let copy' : first_copy (coverage_links c) (tile_in d) (length (coverage_links c).darts + 1) (Some g.followed) ≡ Some w =
    ap (λ s. first_copy C s (length C.darts + 1) (Some g.followed)) tile ∙ ap (first_copy C t (length C.darts + 1)) (sym g.follows) ∙ copy in
    let first = first_is c few (tile_in d) (length C.darts + 1) g.followed w copy' in
    first_same C (tile_in d) one g.steps first.0 g.followed g.next w g.first first.1))

pub rounds_decide : DartLiesOnCycle → HomesExist → RoundsDecide
rounds_decide law exist c few numbered cycles sides follows homes =
    let C : DartLinks = coverage_links c in
    let a : Agreed (library_of c) = record { exist = exist; follows = follows; homes = homes } in
    let back : FlipsAgree (library_of c) = record { exist = exist; follows = follows; flips = homes.flips } in (
      λ none d has. (
          let i : TileOfDart c d = dart-tile c d has in
          let line = darts-none (round_line C) false c none (tile_in d) i.tables (edge_in d) (is_minus d) i.at i.from_one i.to_count in
          let line' = subst (line_of c (tile_in d) i.tables (edge_in d) (is_minus d)) (code-minus d) line in
          let next : (e : ℕ) × (local_next (coverage_links c) d ≡ Some e) =
          (cycles (tile_in d) (tile_has_tables c (tile_in d) i.tables i.at)).next d (record { has = has; tile = refl }) in
          goes_on_here law c few a (tile_in d) i.tables (edge_in d) (is_minus d) d next.0 refl has next.1 line'),
      λ h. darts-silent (round_line C) false c (λ t T k m e low high. (
          let d : ℕ = code t k (sign_of m) in
          let r : DartOfEdge c t T k m = edge-dart c t T k m (few t) e low high in
          here_silent c few t T k m (code t k (sign_of m)) r.tile (λ y e x. one_copy c few numbered sides back (tile_in d) y e x) (h d r.has))),
    )
