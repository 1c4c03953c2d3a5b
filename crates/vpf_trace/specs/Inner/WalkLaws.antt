-- The walk over the darts of a library, past its lines.
use Rattle.std.proofs.Common.{◌≡◌, ℕ, true, false, sym, ap, ◌∙◌, None}
use Rattle.std.specs.Prelude.{is_some}
use Rattle.vpf_darts.specs.Darts.{flip}
use Rattle.vpf_prims.specs.Primitives.{Library}
use Rattle.vpf_wing.specs.Links.{links_of}
use Rattle.vpf_wing.specs.Inner.DartLaws.{flip-has, never_both}
use Rattle.vpf_cross.specs.FollowLaws.{home_has, home_self}
use Rattle.vpf_cross.specs.Following.{follow, home_copy, is_home}
use Rattle.vpf_trace.specs.Tracing.{IsTraceable, map_of_library}
use Rattle.vpf_trace.specs.Inner.LineLaws.{flip_is}

-- a home dart is followed
pub is_followed : (L : Library) → IsTraceable L → (d : ℕ) → is_home (links_of L) d ≡ true → None ≡ follow (links_of L) d → ⊥
is_followed L a d home none = never_both (is_some (follow (links_of L) d)) (a.follows d (home_has (links_of L) d home)) (ap is_some (sym none))

-- the other dart of its edge
pub flip_tiled : (L : Library) (d other : ℕ) → is_home (links_of L) d ≡ true → other ≡ home_copy (links_of L) (flip d) → other ≡ (map_of_library L).flip d
flip_tiled L d other home is = is ∙ sym (flip_is (links_of L) d home)

pub flip_untiled : (L : Library) → IsTraceable L → L.is_tiled ≡ false → (d : ℕ) → is_home (links_of L) d ≡ true → flip d ≡ (map_of_library L).flip d
flip_untiled L a un d home =
    sym (flip_is (links_of L) d home ∙ home_self (links_of L) (flip d) (a.all_home un (flip d) (flip-has L d (home_has (links_of L) d home))))
