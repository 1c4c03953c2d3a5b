-- An untiled coverage whose cycles hold: every dart is a home dart, and goes on to its next round its wing.
use Rattle.std.proofs.Common.{◌≡◌, ℕ, true, not, cond, ◌&&◌, sym, ap, ◌∙◌, inl, inr}
use Rattle.std.specs.Option.{unwrap_or}
use Rattle.std.proofs.lemmas.Bool.{cases_Bool}
use Rattle.vpf_darts.specs.Darts.{flip}
use Rattle.vpf_prims.specs.Primitives.{Library}
use Rattle.vpf_wing.specs.Links.{DartLinks, links_of, local_map, local_next}
use Rattle.vpf_cross.specs.Following.{follow, home_copy, is_far_face, is_home, library_map}
use Rattle.vpf_wing.specs.Inner.DartLaws.{flip-has}
use Rattle.vpf_cross.specs.FollowLaws.{home_has, home_self}
use Rattle.vpf_trace.specs.Inner.Laws.{SameDarts}
use Rattle.vpf_trace.specs.Inner.UntiledLaws.{untiled_home, IsUntiled, follow_local}

-- ---- its references stay in it

-- ---- every dart is a home dart

-- ---- it goes on to its next round its wing

-- ---- and its map is that of its wings

-- the other dart of a dart's edge is a home dart too
pub untiled_flip : (L : Library) → IsUntiled L → (d : ℕ) → is_home (links_of L) d ≡ true → (library_map (links_of L)).flip d ≡ flip d
untiled_flip L a d home =
    ap (λ b. cond b (home_copy (links_of L) (flip d)) d) home
    ∙ home_self (links_of L) (flip d) (untiled_home L a (flip d) (flip-has L d (home_has (links_of L) d home)))

pub untiled_same : (L : Library) → IsUntiled L → SameDarts (library_map (links_of L)) (local_map (links_of L))
untiled_same L a =
    let C : DartLinks = links_of L in
    let same : (d : ℕ) → is_home (links_of L) d ≡ (links_of L).has d = λ d. elim (cases_Bool ((links_of L).has d)) [
      | inl h ↦ untiled_home L a d h ∙ sym h
      | inr n ↦ ap (λ b. b && not (is_far_face ((links_of L).face d))) n ∙ sym n
    ] in
    record {
      has = same;
      live = same;
      next = λ d. elim (cases_Bool ((links_of L).has d)) [
        | inl h ↦ ap (λ b. cond b (unwrap_or (follow C d) d) d) (same d) ∙ ap (λ o. cond (C.has d) (unwrap_or o d) d) (follow_local L a d h)
        | inr n ↦ ap (λ b. cond b (unwrap_or (follow C d) d) d) (same d ∙ n) ∙ ap (λ b. cond b (unwrap_or (local_next C d) d) d) (sym n)
      ];
      flip = λ d home. untiled_flip L a d home;
    }
