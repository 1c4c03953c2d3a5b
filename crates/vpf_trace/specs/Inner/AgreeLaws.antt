-- A library that agrees can be traced.
use Rattle.std.proofs.Common.{◌≡◌, ℕ, Bool, true, false, not, ◌&&◌, refl, ap, inl, inr}
use Rattle.std.specs.Prelude.{is_some}
use Rattle.std.proofs.lemmas.Bool.{cases_Bool}
use Rattle.vpf_prims.specs.Primitives.{Library}
use Rattle.vpf_wing.specs.Links.{DartLinks, links_of}
use Rattle.vpf_cross.specs.Following.{follow, is_outside, is_far_face}
use Rattle.vpf_cross.specs.Sided.{HasFollowers}
use Rattle.vpf_wing.specs.Inner.DartLaws.{never_both}
use Rattle.vpf_cross.specs.FollowLaws.{outside_has}
use Rattle.vpf_cross.specs.Agreeing.{AgreesAcross, LibraryAgrees}
use Rattle.vpf_trace.specs.Tracing.{IsTraceable}
use Rattle.vpf_trace.specs.Inner.UntiledLaws.{IsUntiled, untiled_followers, untiled_home}

home_only : (a b : Bool) → (a && not b) ≡ true → (a && b) ≡ true → ⊥
home_only true true h k = never_both false h refl
home_only true false h k = never_both false k refl
home_only false b h k = never_both false h refl

-- where each dart has a follower, something follows it
pub followed : (C : DartLinks) → HasFollowers C → (d : ℕ) → C.has d ≡ true → is_some (follow C d) ≡ true
followed C f d h = ap is_some (f.follows d h).1

-- no dart of an untiled coverage is an outside dart
none_outside : (L : Library) → IsUntiled L → (d : ℕ) → is_outside (links_of L) d ≡ true → ⊥
none_outside L u d out =
    home_only ((links_of L).has d) (is_far_face ((links_of L).face d)) (untiled_home L u d (outside_has (links_of L) d out)) out

pub untiled_traceable : (L : Library) → IsUntiled L → IsTraceable L
untiled_traceable L u = record {
  few = u.library.few;
  follows = λ d h. followed (links_of L) (untiled_followers L u) d h;
  follow_apart = (untiled_followers L u).follow_apart;
  flips = λ d out. absurd (none_outside L u d out);
  signs = λ d out. absurd (none_outside L u d out);
  marks = λ d out. absurd (none_outside L u d out);
  all_home = λ un d has. untiled_home L u d has;
}

pub agreeing_untiled : (L : Library) → LibraryAgrees L → L.is_tiled ≡ false → IsUntiled L
agreeing_untiled L a un = record { untiled = un; library = a.library; numbered = a.numbered; cycles = a.cycles }

pub agreeing_traceable : (L : Library) → LibraryAgrees L → IsTraceable L
agreeing_traceable L a = elim (cases_Bool L.is_tiled) [
  | inl tiled ↦ (
      let across : AgreesAcross L = a.across tiled in
      record {
        few = a.library.few;
        follows = λ d h. followed (links_of L) across.follows d h;
        follow_apart = across.follows.follow_apart;
        flips = across.homes.flips;
        signs = across.homes.signs;
        marks = across.homes.marks;
        all_home = λ un d has. absurd (never_both L.is_tiled tiled un);
      })
  | inr un ↦ untiled_traceable L (agreeing_untiled L a un)
]
