-- Where each dart is followed, and no two home darts by the same, each dart has a home copy.
use Rattle.std.proofs.Common.{[], ◌≡◌, ℕ, ◌+◌, ◌*◌, ◌^◌, ◌<◌, Bool, true, false, cond, ltb, nat_eq, refl, sym, ap, ◌∙◌, subst, inl, inr, arith, Some, List, ◌∷◌, ◌++◌, length, map}
use Rattle.std.specs.Option.{unwrap_or, option_eq}
use Rattle.std.proofs.lemmas.Bool.{cases_Bool, and_parts, and_from, ltb-true, lt-ltb}
use Rattle.vpf_darts.specs.Cycles.{IsCycle, first_of}
use Rattle.vpf_darts.specs.Darts.{flip}
use Rattle.vpf_darts.specs.Inner.Laws.{DartLiesOnCycle}
use Rattle.vpf_darts.specs.Maps.{DartMap, IsMap}
use Rattle.vpf_prims.specs.Primitives.{Library}
use Rattle.vpf_wing.specs.Links.{DartLinks, links_of}
use Rattle.vpf_follow.specs.Following.{is_home, follow, follows_to, first_home, home_copy, library_map}
use Rattle.vpf_follow.specs.Sided.{HasFollowers}
use Rattle.vpf_follow.specs.Inner.Laws.{HomesExist}
use Rattle.vpf_wing.specs.Inner.DartLaws.{never_both, flip-flip, flip-apart, dart_bound, darts-below, darts-stand, found-passes, found-some}
use Rattle.vpf_follow.specs.Inner.FollowLaws.{home_has, follow_home, home_self, home_moves, away_stays, next_apart}
use Rattle.vpf_follow.specs.Inner.TileLaws.{options-same, same-options}
use Rattle.vpf_follow.specs.Inner.HomeLaws.{after_first as rest_of}

flip_below : (n x : ℕ) → x < 2 * n → flip x < 2 * n
unfolding flip
flip_below n x h = omega arith

same_side : (a b n : ℕ) → (a < n → b < n) → (b < n → a < n) → ltb a n ≡ ltb b n
same_side a b n f g = elim (cases_Bool (ltb a n)) [
  | inl t ↦ t ∙ sym (lt-ltb b n (f (ltb-true a n t)))
  | inr u ↦ (elim (cases_Bool (ltb b n)) [
    | inl v ↦ absurd (never_both (ltb a n) (lt-ltb a n (g (ltb-true b n v))) u)
    | inr w ↦ u ∙ sym w
  ])
]

-- the map of a library with the flips of its tiles: its next is a permutation of all numbers below the bound
abbrev plain_map : Library → DartMap
plain_map L = record { has = λ d. true; next = (library_map (links_of L)).next; flip = flip; live = λ d. ltb d (dart_bound L) }

next_below : (L : Library) → HasFollowers (links_of L) → (d : ℕ) → d < dart_bound L → (library_map (links_of L)).next d < dart_bound L
next_below L a d lt = elim (cases_Bool (is_home (links_of L) d)) [
  | inl h ↦ darts-below L ((library_map (links_of L)).next d) (home_has (links_of L) ((library_map (links_of L)).next d) (home_moves (links_of L) a d h).home)
  | inr g ↦ subst (λ z. z < dart_bound L) (sym (away_stays (links_of L) d g)) lt
]

next_from : (L : Library) (d : ℕ) → (library_map (links_of L)).next d < dart_bound L → d < dart_bound L
next_from L d lt = elim (cases_Bool (is_home (links_of L) d)) [
  | inl h ↦ darts-below L d (home_has (links_of L) d h)
  | inr g ↦ subst (λ z. z < dart_bound L) (away_stays (links_of L) d g) lt
]

is_plain_map : (L : Library) → HasFollowers (links_of L) → IsMap (plain_map L)
is_plain_map L a =
    let C : DartLinks = links_of L in
    record {
      next_apart = next_apart C a;
      next_live = λ d. same_side ((library_map C).next d) d (dart_bound L) (next_from L d) (next_below L a d);
      next_dead = λ d h. elim (cases_Bool (is_home C d)) [
        | inl t ↦ absurd (never_both (ltb d (dart_bound L)) (lt-ltb d (dart_bound L) (darts-below L d (home_has C d t))) h)
        | inr g ↦ away_stays C d g
      ];
      live_has = λ d h. refl;
      flip_has = λ d h. refl;
      flip_live = λ d h. same_side (flip d) d (dart_bound L)
          (λ lt. subst (λ z. z < dart_bound L) (flip-flip d) (flip_below (2 ^ 32 * (L.last + 1)) (flip d) lt))
          (flip_below (2 ^ 32 * (L.last + 1)) d);
      flip_flip = λ d h. flip-flip d;
      flip_apart = λ d h. flip-apart d;
    }

before_last : (f : ℕ → ℕ) (y : ℕ) (xs zs : List ℕ) → map f xs ≡ zs ++ y ∷ [] → (z : ℕ) × (f z ≡ y)
unfolding rest_of
before_last f y [] [] h = let e : 0 ≡ length (y ∷ []) = ap length h in absurd (omega arith)
before_last f y [] (z ∷ zs) h = let e : 0 ≡ length (z ∷ (zs ++ y ∷ [])) = ap length h in absurd (omega arith)
before_last f y (x ∷ xs) [] h = (x, ap first_of h)
before_last f y (x ∷ xs) (z ∷ zs) h = before_last f y xs zs (ap rest_of h)

before_first : (f : ℕ → ℕ) (y : ℕ) (cycle : List ℕ) → IsCycle f cycle → first_of cycle ≡ y → (z : ℕ) × (f z ≡ y)
before_first f y [] h e = absurd h
before_first f y (x ∷ xs) h e = let r : (z : ℕ) × (f z ≡ x) = before_last f x (x ∷ xs) xs h in (r.0, r.1 ∙ e)

-- each home dart follows one
comes_after : DartLiesOnCycle → (L : Library) → HasFollowers (links_of L) → (y : ℕ) → is_home (links_of L) y ≡ true
    → (z : ℕ) × (is_home (links_of L) z ≡ true) × (follow (links_of L) z ≡ Some y)
comes_after law L a y hy =
    let C : DartLinks = links_of L in
    let lt : y < dart_bound L = darts-below L y (home_has C y hy) in
    let cycle : (cycle : List ℕ) × IsCycle (library_map (links_of L)).next cycle × (first_of cycle ≡ y) =
    law (plain_map L) (dart_bound L) y (is_plain_map L a) (λ d h. ltb-true d (dart_bound L) h) (lt-ltb y (dart_bound L) lt) in
    let z : (z : ℕ) × ((library_map (links_of L)).next z ≡ y) = before_first (library_map C).next y cycle.0 cycle.1 cycle.2 in
    let hz : is_home (links_of L) z.0 ≡ true = elim (cases_Bool (is_home (links_of L) z.0)) [
      | inl h ↦ h
      | inr g ↦ absurd (never_both (is_home C z.0) (ap (is_home C) (sym (away_stays C z.0 g) ∙ z.1) ∙ hy) g)
    ] in
    (z.0, hz, (home_moves C a z.0 hz).follows ∙ ap (λ o. Some o) z.1)

-- the first home dart that is followed by y
record IsFirst (C : DartLinks) (y : ℕ) : Type 0 where
  one : ℕ
  found : first_home C (Some y) ≡ Some one
  home : is_home C one ≡ true
  follows : follow C one ≡ Some y

first_there : (L : Library) (z y : ℕ) → is_home (links_of L) z ≡ true → follow (links_of L) z ≡ Some y → IsFirst (links_of L) y
unfolding first_home
first_there L z y hz f =
    let C : DartLinks = links_of L in
    let test : ℕ → Bool = follows_to (links_of L) (Some y) in
    let w : (w : ℕ) × _ =
    found-some test z (and_from (is_home C z) (option_eq nat_eq (follow C z) (Some y)) hz (same-options _ _ f)) C.darts (darts-stand L z (home_has C z hz)) in
    let p = found-passes test C.darts w.0 w.1 in
    let q = and_parts (is_home C w.0) (option_eq nat_eq (follow C w.0) (Some y)) p.0 in
    record { one = w.0; found = w.1; home = q.0; follows = options-same _ _ q.1 }

home_first : (C : DartLinks) (x y : ℕ) → is_home C x ≡ false → follow C x ≡ Some y → (f : IsFirst C y) → home_copy C x ≡ f.one
unfolding home_copy
home_first C x y away e f =
    ap (λ b. cond b x (unwrap_or (first_home C (follow C x)) x)) away
    ∙ ap (λ o. unwrap_or (first_home C o) x) e
    ∙ ap (λ o. unwrap_or o x) f.found

pub homes_exist : DartLiesOnCycle → HomesExist
homes_exist law L a x hx =
    let C : DartLinks = links_of L in
    elim (cases_Bool (is_home C x)) [
      | inl h ↦ (let e : home_copy C x ≡ x = home_self C x h in record { home = ap (is_home C) e ∙ h; follows = ap (follow C) e })
      | inr away ↦ (
          let y : (y : ℕ) × (follow (links_of L) x ≡ Some y) = a.follows x hx in
          let z = comes_after law L a y.0 (follow_home C x y.0 y.1) in
          let f : IsFirst (links_of L) y.0 = first_there L z.0 y.0 z.1 z.2 in
          let e : home_copy (links_of L) x ≡ f.one = home_first C x y.0 away y.1 f in
          record { home = ap (is_home C) e ∙ f.home; follows = ap (follow C) e ∙ f.follows ∙ sym y.1 })
    ]
