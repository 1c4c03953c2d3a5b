-- There is no finding on what follows darts exactly where each is followed, and no two home darts by the same.
use Rattle.std.proofs.Common.{◌≡◌, ℕ, Bool, true, false, cond, eqb, nat_eq, refl, sym, ap, ◌∙◌, subst, inl, inr, Option, Some, None}
use Rattle.std.specs.Prelude.{find}
use Rattle.std.specs.Option.{option_eq, option_map}
use Rattle.std.proofs.lemmas.Bool.{cases_Bool, and_parts, and_from, eqb-true, eq-eqb}
use Rattle.vpf_darts.specs.Darts.{code, tile_in, edge_in, sign_of}
use Rattle.vpf_findings.specs.Findings.{Disagreement}
use Rattle.vpf_findings.specs.Inner.FirstLaws.{option_map-none}
use Rattle.vpf_prims.specs.Primitives.{Library}
use Rattle.vpf_prims.specs.Tables.{TileTables}
use Rattle.vpf_wing.specs.Links.{DartLinks, links_of, is_minus}
use Rattle.vpf_prims.specs.Libraries.{library_of}
use Rattle.vpf_follow.specs.Following.{is_home, follow, follows_to, first_home, number_seen}
use Rattle.vpf_follow.specs.FollowLines.{at_wing_of, earlier_home, follow_line, follow_line_at}
use Rattle.vpf_follow.specs.Sided.{HasFollowers}
use Rattle.vpf_follow.specs.Inner.Laws.{FollowersDecide}
use Rattle.vpf_wing.specs.Inner.DartLaws.{some-or-none, same_some, code-minus, darts-stand, found-passes, found-some}
use Rattle.vpf_follow.specs.Inner.FollowLaws.{home_has}
use Rattle.vpf_follow.specs.Inner.TileLaws.{TileOfDart, dart-tile, DartOfEdge, edge-dart, unless-none, unless-true, darts-none, darts-silent, options-same, same-options}

-- a dart is followed, and where it is a home dart no other one is by the same
record FollowsAlone (C : DartLinks) (d : ℕ) : Type 0 where
  next : ℕ
  follows : follow C d ≡ Some next
  first : is_home C d ≡ true → earlier_home d (first_home C (Some next)) ≡ None

line_some : (C : DartLinks) (t : ℕ) (T : TileTables) (k : ℕ) (m : Bool) (o : Option ℕ) → follow_line_at C t T k m o ≡ None → (y : ℕ) × (o ≡ Some y)
line_some C t T k m None h = absurd cc
line_some C t T k m (Some y) h = (y, refl)

line_first : (C : DartLinks) (t : ℕ) (T : TileTables) (k : ℕ) (m : Bool) (y : ℕ) → follow_line_at C t T k m (Some y) ≡ None
    → is_home C (code t k (sign_of m)) ≡ true → earlier_home (code t k (sign_of m)) (first_home C (Some y)) ≡ None
line_first C t T k m y h home =
    let seen : ℕ → Disagreement = λ x. at_wing_of t T 4 k m (number_seen y) (number_seen x) in
    let h' = sym (ap (λ b. cond b (option_map seen (earlier_home (code t k (sign_of m)) (first_home C (Some y)))) None) home) ∙ h in
    option_map-none seen (earlier_home (code t k (sign_of m)) (first_home C (Some y))) h'

alone : (C : DartLinks) (t : ℕ) (T : TileTables) (k : ℕ) (m : Bool) → follow_line C t T k m ≡ None → FollowsAlone C (code t k (sign_of m))
alone C t T k m h =
    let y : (y : ℕ) × (follow C (code t k (sign_of m)) ≡ Some y) = line_some C t T k m (follow C (code t k (sign_of m))) h in
    record {
      next = y.0;
      follows = y.1;
      first = line_first C t T k m y.0 (ap (follow_line_at C t T k m) (sym y.1) ∙ h);
    }

-- the first home dart that is followed so is this one
first_is : (L : Library) (d y : ℕ) → is_home (links_of L) d ≡ true → follow (links_of L) d ≡ Some y
    → (w : ℕ) × (first_home (links_of L) (Some y) ≡ Some w)
unfolding first_home
first_is L d y home f =
    found-some (follows_to (links_of L) (Some y)) d
    (and_from (is_home (links_of L) d) (option_eq nat_eq (follow (links_of L) d) (Some y)) home (same-options _ _ f))
    (links_of L).darts (darts-stand L d (home_has (links_of L) d home))

earlier_none : (d w : ℕ) (o : Option ℕ) → o ≡ Some w → earlier_home d o ≡ None → w ≡ d
earlier_none d w o e h = eqb-true w d (unless-none (eqb w d) w (ap (earlier_home d) (sym e) ∙ h))

apart : (L : Library) → ((d : ℕ) → (links_of L).has d ≡ true → FollowsAlone (links_of L) d) → (d e : ℕ) → is_home (links_of L) d ≡ true
    → is_home (links_of L) e ≡ true
    → follow (links_of L) d ≡ follow (links_of L) e → d ≡ e
apart L all d e hd he same =
    let x : FollowsAlone (links_of L) d = all d (home_has (links_of L) d hd) in
    let y : FollowsAlone (links_of L) e = all e (home_has (links_of L) e he) in
    let w : (w : ℕ) × (first_home (links_of L) (Some x.next) ≡ Some w) = first_is L d x.next hd x.follows in
    let n : x.next ≡ y.next = same_some x.next y.next (sym x.follows ∙ same ∙ y.follows) in
    let at-d : w.0 ≡ d = earlier_none d w.0 (first_home (links_of L) (Some x.next)) w.1 (x.first hd) in
    let at-e : w.0 ≡ e = earlier_none e w.0 (first_home (links_of L) (Some y.next)) (ap (λ z. first_home (links_of L) (Some z)) (sym n) ∙ w.1) (y.first he) in
    sym at-d ∙ at-e

has_followers : (L : Library) → ((d : ℕ) → (links_of L).has d ≡ true → FollowsAlone (links_of L) d) → HasFollowers (links_of L)
has_followers L all = record {
  follows = λ d has. ((all d has).next, (all d has).follows);
  follow_apart = apart L all;
}

-- where no two home darts are followed by the same, none comes before a dart that is
first_silent : (C : DartLinks) → HasFollowers C → (d y : ℕ) → is_home C d ≡ true → follow C d ≡ Some y → earlier_home d (first_home C (Some y)) ≡ None
unfolding first_home
first_silent C h d y home f = elim (some-or-none (find (follows_to C (Some y)) C.darts)) [
  | inl w ↦ (
      let p = found-passes (follows_to C (Some y)) C.darts w.0 w.1 in
      let q = and_parts (is_home C w.0) (option_eq nat_eq (follow C w.0) (Some y)) p.0 in
      let e : w.0 ≡ d = h.follow_apart w.0 d q.0 home (options-same _ _ q.1 ∙ sym f) in
      ap (earlier_home d) w.1 ∙ unless-true (eqb w.0 d) w.0 (eq-eqb w.0 d e))
  | inr n ↦ ap (earlier_home d) n
]

line_silent : (C : DartLinks) → HasFollowers C → (t : ℕ) (T : TileTables) (k : ℕ) (m : Bool) → C.has (code t k (sign_of m)) ≡ true
    → follow_line C t T k m ≡ None
line_silent C h t T k m has =
    let d : ℕ = code t k (sign_of m) in
    let y : (y : ℕ) × (follow C (code t k (sign_of m)) ≡ Some y) = h.follows (code t k (sign_of m)) has in
    let seen : ℕ → Disagreement = λ x. at_wing_of t T 4 k m (number_seen y.0) (number_seen x) in
    ap (follow_line_at C t T k m) y.1 ∙ (elim (cases_Bool (is_home C (code t k (sign_of m)))) [
      | inl home ↦ ap (λ b. cond b (option_map seen (earlier_home (code t k (sign_of m)) (first_home C (Some y.0)))) None) home
          ∙ ap (option_map seen) (first_silent C h (code t k (sign_of m)) y.0 home y.1)
      | inr away ↦ ap (λ b. cond b (option_map seen (earlier_home (code t k (sign_of m)) (first_home C (Some y.0)))) None) away
    ])

pub followers_decide : FollowersDecide
followers_decide c few = (
  λ none. has_followers (library_of c) (λ d has. (
      let i : TileOfDart c d = dart-tile c d has in
      let line = darts-none (follow_line (links_of (library_of c))) false c none (tile_in d) i.tables (edge_in d) (is_minus d) i.at i.from_one i.to_count in
      subst (FollowsAlone (links_of (library_of c))) (code-minus d) (alone (links_of (library_of c)) (tile_in d) i.tables (edge_in d) (is_minus d) line))),
  λ h. darts-silent (follow_line (links_of (library_of c))) false c (λ t T k m e low high. (
      let r : DartOfEdge c t T k m = edge-dart c t T k m (few t) e low high in
      line_silent (links_of (library_of c)) h t T k m r.has)),
)
