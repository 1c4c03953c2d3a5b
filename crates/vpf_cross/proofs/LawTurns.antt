-- The darts that follow a dart round its node across the tiles: they come to a copy of the dart's own edge in its tile.
use Rattle.std.proofs.Common.{◌≡◌, ℕ, zero, suc, ◌<◌, ◌≤◌, true, false, cond, sym, ap, ◌∙◌, inl, inr, Some, length}
use Rattle.std.proofs.lemmas.Bool.{cases_Bool}
use Rattle.vpf_darts.specs.Darts.{tile_in, flip}
use Rattle.vpf_darts.specs.Inner.Laws.{DartLiesOnCycle}
use Rattle.vpf_darts.specs.Maps.{DartMap, IsMap, turn}
use Rattle.vpf_prims.specs.Primitives.{Library}
use Rattle.vpf_wing.specs.Links.{DartLinks, links_of}
use Rattle.vpf_follow.specs.Following.{is_home, follow, home_copy, library_map}
use Rattle.vpf_follow.specs.Sided.{HasFollowers}
use Rattle.vpf_follow.specs.Inner.Laws.{HomesExist}
use Rattle.vpf_wing.specs.Inner.DartLaws.{same_some, never_both, dart_bound, darts-below, stands_in, darts-stand, flip-has, flip-tile}
use Rattle.vpf_follow.specs.Inner.FollowLaws.{home_has, home_self, away_outside, home_moves, away_stays}
use Rattle.vpf_cross.specs.Agreeing.{HasHomes, IsCopy}
use Rattle.vpf_cross.proofs.LawMap.{flip_is, is_map}
use Rattle.vpf_cross.proofs.LawWalks.{after, FirstStep, first_step, steps_below, StepBefore, round}

-- the next round the node, in the map of the library
abbrev pub turning : Library → ℕ → ℕ
turning L = turn (library_map (links_of L))

-- as a map of its own
abbrev turn_map : Library → DartMap
turn_map L = record { has = is_home (links_of L); next = turning L; flip = (library_map (links_of L)).flip; live = is_home (links_of L) }

flip_stays : (C : DartLinks) (x : ℕ) → is_home C x ≡ false → (library_map C).flip x ≡ x
flip_stays C x away = ap (λ b. cond b (home_copy C (flip x)) x) away

-- the laws of home copies, of what follows and of the edges that darts are of
pub record Agreed (L : Library) : Type 0 where
  pub exist : HomesExist
  pub follows : HasFollowers (links_of L)
  pub homes : HasHomes (links_of L)

flips_apart : (L : Library) → IsMap (library_map (links_of L)) → (d e : ℕ) → (library_map (links_of L)).flip d ≡ (library_map (links_of L)).flip e → d ≡ e
flips_apart L m d e q =
    let C : DartLinks = links_of L in
    elim (cases_Bool (is_home C d)) [
      | inl hd ↦ (elim (cases_Bool (is_home C e)) [
        | inl he ↦ sym (m.flip_flip d hd) ∙ ap (library_map C).flip q ∙ m.flip_flip e he
        | inr ne ↦ absurd (never_both (is_home C e) (ap (is_home C) (sym (flip_stays C e ne) ∙ sym q) ∙ m.flip_has d hd) ne)
      ])
      | inr nd ↦ (elim (cases_Bool (is_home C e)) [
        | inl he ↦ absurd (never_both (is_home C d) (ap (is_home C) (sym (flip_stays C d nd) ∙ q) ∙ m.flip_has e he) nd)
        | inr ne ↦ sym (flip_stays C d nd) ∙ q ∙ flip_stays C e ne
      ])
    ]

turn_live : (L : Library) → IsMap (library_map (links_of L)) → (d : ℕ) → is_home (links_of L) (turning L d) ≡ is_home (links_of L) d
turn_live L m d =
    let C : DartLinks = links_of L in
    m.next_live ((library_map C).flip d) ∙ (elim (cases_Bool (is_home C d)) [
      | inl h ↦ m.flip_live d h
      | inr g ↦ ap (is_home C) (flip_stays C d g)
    ])

is_turn_map : (L : Library) → IsMap (library_map (links_of L)) → IsMap (turn_map L)
is_turn_map L m = record {
  next_apart = λ d e q. flips_apart L m d e (m.next_apart _ _ q);
  next_live = turn_live L m;
  next_dead = λ d away. ap (library_map (links_of L)).next (flip_stays (links_of L) d away) ∙ away_stays (links_of L) d away;
  live_has = λ d h. h;
  flip_has = m.flip_has;
  flip_live = m.flip_live;
  flip_flip = m.flip_flip;
  flip_apart = m.flip_apart;
}

-- what follows the other dart of a home dart's edge is the next round the node
pub follow_turn : (L : Library) → Agreed L → (x : ℕ) → is_home (links_of L) x ≡ true → follow (links_of L) (flip x) ≡ Some (turning L x)
follow_turn L a x h =
    let C : DartLinks = links_of L in
    let copy = a.exist L a.follows (flip x) (flip-has L x (home_has C x h)) in
    sym copy.follows ∙ (home_moves C a.follows (home_copy C (flip x)) copy.home).follows ∙ ap (λ z. Some ((library_map C).next z)) (sym (flip_is C x h))

-- home darts turn to home darts
pub turns_home : (L : Library) → IsMap (library_map (links_of L)) → (k x : ℕ) → is_home (links_of L) x ≡ true
    → is_home (links_of L) (after (turning L) k x) ≡ true
unfolding after
turns_home L m zero x h = h
turns_home L m (suc k) x h = turns_home L m k (turning L x) (turn_live L m x ∙ h)

-- the home dart before the one that follows d, round the node
abbrev pub last_turn : Library → ℕ → ℕ
last_turn L d = home_copy (links_of L) (flip (home_copy (links_of L) d))

-- it turns to the dart that follows d, and d's own edge has a copy of it in d's tile
pub record IsLastTurn (L : Library) (d y : ℕ) : Type 0 where
  pub home : is_home (links_of L) (last_turn L d) ≡ true
  pub turns : turning L (last_turn L d) ≡ y
  pub copy : IsCopy (links_of L) (tile_in d) (last_turn L d) (flip d)

copy_of_flip : (L : Library) → Agreed L → (d : ℕ) → (links_of L).has d ≡ true → is_home (links_of L) (last_turn L d) ≡ true
    → home_copy (links_of L) (flip d) ≡ home_copy (links_of L) (last_turn L d)
copy_of_flip L a d has home =
    let C : DartLinks = links_of L in
    elim (cases_Bool (is_home C d)) [
      | inl h ↦ ap (λ z. home_copy C (flip z)) (sym (home_self C d h)) ∙ sym (home_self C (last_turn L d) home)
      | inr g ↦ ap (home_copy C) (sym (a.homes.flips d (away_outside C d has g)))
    ]

pub is_last_turn : (L : Library) → Agreed L → (d y : ℕ) → (links_of L).has d ≡ true → follow (links_of L) d ≡ Some y → IsLastTurn L d y
is_last_turn L a d y has f =
    let C : DartLinks = links_of L in
    let m : IsMap (library_map (links_of L)) = is_map a.exist L a.follows a.homes in
    let h : ℕ = home_copy (links_of L) d in
    let own = a.exist L a.follows d has in
    let copy = a.exist L a.follows (flip h) (flip-has L h (home_has C h own.home)) in
    let turned : (library_map (links_of L)).flip (last_turn L d) ≡ home_copy (links_of L) d =
    ap (library_map C).flip (sym (flip_is C h own.home)) ∙ m.flip_flip h own.home in
    let next : (library_map (links_of L)).next (home_copy (links_of L) d) ≡ y =
    same_some _ _ (sym (home_moves C a.follows h own.home).follows ∙ own.follows ∙ f) in
    record {
      home = copy.home;
      turns = ap (library_map C).next turned ∙ next;
      copy = record { has = flip-has L d has; tile = flip-tile d; home = copy_of_flip L a d has copy.home };
    }

-- a walk round the node comes to it in fewer steps than there are darts
pub record WalkRound (L : Library) (d y : ℕ) : Type 0 where
  pub steps : ℕ
  pub few : steps < length (links_of L).darts
  pub comes : after (turning L) steps y ≡ last_turn L d

pub walk_round : DartLiesOnCycle → (L : Library) → Agreed L → (d y : ℕ) → is_home (links_of L) y ≡ true → IsLastTurn L d y → WalkRound L d y
walk_round law L a d y hy last =
    let C : DartLinks = links_of L in
    let m : IsMap (library_map (links_of L)) = is_map a.exist L a.follows a.homes in
    let t : IsMap (turn_map L) = is_turn_map L m in
    let cycle = law (turn_map L) (dart_bound L) y t (λ x h. darts-below L x (home_has C x h)) hy in
    let r : StepBefore (turning L) y y = round (turning L) cycle.0 y cycle.1 cycle.2 in
    let same : after (turning L) r.steps y ≡ last_turn L d = t.next_apart (after (turning L) r.steps y) (last_turn L d) (r.goes ∙ sym last.turns) in
    let s : FirstStep (turning L) y (last_turn L d) = first_step (turning L) r.steps y (last_turn L d) same in
    let among : (i : ℕ) → i ≤ s.steps → stands_in (after (turning L) i y) (links_of L).darts ≡ true = λ i le.
    darts-stand L (after (turning L) i y) (home_has C (after (turning L) i y) (turns_home L m i y hy)) in
    record { steps = s.steps; few = steps_below (turning L) s.steps y (last_turn L d) C.darts s.comes s.before among; comes = s.comes }
