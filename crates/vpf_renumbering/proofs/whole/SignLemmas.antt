-- The two darts of an edge of a library's map have two signs.
use Rattle.std.proofs.Common.{◌≡◌, ◌≢◌, ℕ, true, sym, ap, ◌∙◌, inl, inr}
use Rattle.std.proofs.lemmas.Bool.{cases_Bool}
use Rattle.vpf_darts.specs.Darts.{flip, sign_in}
use Rattle.vpf_prims.specs.Primitives.{Library}
use Rattle.vpf_wing.specs.Links.{DartLinks, links_of}
use Rattle.vpf_wing.specs.Inner.DartLaws.{flip-has, flip-sign}
use Rattle.vpf_follow.specs.Inner.FollowLaws.{away_outside, home_has, home_self}
use Rattle.vpf_follow.specs.Following.{home_copy, is_home, library_map}
use Rattle.vpf_trace.specs.Tracing.{IsTraceable}
use Rattle.vpf_trace.specs.Inner.LineLaws.{flip_is}

-- the home copy of the other dart has its sign
other_sign : (L : Library) → IsTraceable L → (d : ℕ) → is_home (links_of L) d ≡ true → sign_in (home_copy (links_of L) (flip d)) ≡ sign_in (flip d)
other_sign L a d home =
    let C : DartLinks = links_of L in
    elim (cases_Bool (is_home C (flip d))) [
      | inl there ↦ ap sign_in (home_self C (flip d) there)
      | inr away ↦ a.signs (flip d) (away_outside C (flip d) (flip-has L d (home_has C d home)) away)
    ]

pub two_signs : (L : Library) → IsTraceable L → (d : ℕ) → is_home (links_of L) d ≡ true → sign_in ((library_map (links_of L)).flip d) ≢ sign_in d
two_signs L a d home e = flip-sign d (sym (other_sign L a d home) ∙ ap sign_in (sym (flip_is (links_of L) d home)) ∙ e)
