-- The map of the turns about nodes.
use Rattle.std.proofs.Common.{◌≡◌, ℕ, false, sym, ap, ◌∙◌, inl, inr}
use Rattle.std.proofs.lemmas.Bool.{cases_Bool}
use Rattle.vpf_darts.specs.Maps.{DartMap, IsMap}
use Rattle.vpf_prims.specs.Primitives.{Library}
use Rattle.vpf_wing.specs.Links.{DartLinks, links_of}
use Rattle.vpf_wing.specs.Inner.DartLaws.{never_both}
use Rattle.vpf_follow.specs.Following.{home_copy, is_home, library_map}
use Rattle.vpf_darts.specs.Darts.{flip}
use Rattle.std.proofs.Common.{cond}
use Rattle.vpf_renumbering.specs.Inner.Whole.Turning.{turning_map}

-- a dart that isn't live is its own other dart
abbrev StaysApart : DartMap → Type 0
StaysApart m = (d : ℕ) → m.live d ≡ false → m.flip d ≡ d

flip_same : (m : DartMap) → IsMap m → StaysApart m → (d e : ℕ) → m.flip d ≡ m.flip e → d ≡ e
flip_same m a stays d e q = elim (cases_Bool (m.live d)) [
  | inl hd ↦ (elim (cases_Bool (m.live e)) [
    | inl he ↦ sym (a.flip_flip d (a.live_has d hd)) ∙ ap m.flip q ∙ a.flip_flip e (a.live_has e he)
    | inr ne ↦ absurd (never_both (m.live e) (ap m.live (sym (stays e ne)) ∙ ap m.live (sym q) ∙ a.flip_live d (a.live_has d hd) ∙ hd) ne)
  ])
  | inr nd ↦ (elim (cases_Bool (m.live e)) [
    | inl he ↦ absurd (never_both (m.live d) (ap m.live (sym (stays d nd)) ∙ ap m.live q ∙ a.flip_live e (a.live_has e he) ∙ he) nd)
    | inr ne ↦ sym (stays d nd) ∙ q ∙ stays e ne
  ])
]

turning_is_map : (m : DartMap) → IsMap m → StaysApart m → IsMap (turning_map m)
turning_is_map m a stays = record {
  next_apart = λ d e q. flip_same m a stays d e (a.next_apart (m.flip d) (m.flip e) q);
  next_live = λ d. a.next_live (m.flip d) ∙ elim (cases_Bool (m.live d)) [
    | inl live ↦ a.flip_live d (a.live_has d live)
    | inr dead ↦ ap m.live (stays d dead)
  ];
  next_dead = λ d dead. ap m.next (stays d dead) ∙ a.next_dead d dead;
  live_has = a.live_has;
  flip_has = a.flip_has;
  flip_live = a.flip_live;
  flip_flip = a.flip_flip;
  flip_apart = a.flip_apart;
}

stays : (C : DartLinks) (d : ℕ) → is_home C d ≡ false → (library_map C).flip d ≡ d
stays C d away = ap (λ b. cond b (home_copy C (flip d)) d) away

-- that of a library
pub library_turns : (L : Library) → IsMap (library_map (links_of L)) → IsMap (turning_map (library_map (links_of L)))
library_turns L a = turning_is_map (library_map (links_of L)) a (stays (links_of L))
