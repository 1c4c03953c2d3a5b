-- The home darts of a library rise, and are the live darts of its map.
use Rattle.std.proofs.Common.{[], ◌≡◌, ℕ, ◌^◌, ◌<◌, ◌&&◌, refl, sym, ap, ◌∙◌, subst, inl, inr, arith, List}
use Rattle.std.specs.List.{filter}
use Rattle.std.specs.List.Sorted.{IsStrictlyIncreasing}
use Rattle.std.proofs.lemmas.Bool.{cases_Bool}
use Rattle.std.proofs.lemmas.List.Kept.{IsStrictlyIncreasing-filter}
use Rattle.vpf_darts.specs.declared.darts.TileDart.{TileDart}
use Rattle.vpf_darts.specs.Maps.{DartMap, IsMap}
use Rattle.vpf_prims.specs.Primitives.{Library, edge_count}
use Rattle.vpf_wing.specs.Links.{links_of}
use Rattle.vpf_wing.specs.Inner.DartLaws.{darts-stand, stands_in}
use Rattle.vpf_wing.specs.Inner.Kept.Kept.{AreKept}
use Rattle.vpf_follow.specs.Inner.FollowLaws.{home_has}
use Rattle.vpf_follow.specs.Following.{is_home}
use Rattle.vpf_tiling_laws.specs.Gluing.Whole.{whole_of}
use Rattle.vpf_renumbering.specs.Inner.Whole.Gathering.{AreHomeAmong, AreHomeDarts}
use Rattle.vpf_trace.specs.Inner.GatherLaws.{darts_rise, stands_in_filter as stands_filter}

-- no dart is gathered yet
pub none_yet : (L : Library) → AreHomeAmong L [] []
none_yet L = record { numbers = refl; small = λ i d h. absurd (omega arith) }

-- ---- they rise

-- ---- and they are the live darts of the map

home_stands : (L : Library) (d : ℕ) → stands_in d (whole_of L).order ≡ is_home (links_of L) d
home_stands L d = stands_filter (is_home (links_of L)) d (links_of L).darts ∙ elim (cases_Bool (is_home (links_of L) d)) [
  | inl home ↦ ap (λ b. b && stands_in d (links_of L).darts) home ∙ darts-stand L d (home_has (links_of L) d home) ∙ sym home
  | inr away ↦ ap (λ b. b && stands_in d (links_of L).darts) away ∙ sym away
]

-- all home darts, as they are gathered
pub gathered_all : (L : Library) → ((t : ℕ) → edge_count L t < 2 ^ 24) → (darts : List TileDart) → AreHomeAmong L (links_of L).darts darts → AreHomeDarts L darts
gathered_all L few darts k = record {
  numbers = k.numbers;
  in_order = record {
    small = k.small;
    rise = subst IsStrictlyIncreasing (sym k.numbers) (IsStrictlyIncreasing-filter (is_home (links_of L)) (links_of L).darts (darts_rise L few));
  };
  each = λ d. ap (stands_in d) k.numbers ∙ home_stands L d;
}

-- so a walk of a map of these passes over none
pub none_passed : (L : Library) (m : DartMap) → IsMap m → ((d : ℕ) → m.live d ≡ is_home (links_of L) d) → (darts : List TileDart) → AreHomeDarts L darts
    → AreKept m [] darts
none_passed L m is_map live darts h = record {
  is_map = is_map;
  edges = tt;
  in_order = h.in_order;
  kept = λ d. h.each d ∙ sym (live d);
}
