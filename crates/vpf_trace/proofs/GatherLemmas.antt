-- The home darts of the edges that are no lines, as they are gathered.
use Rattle.std.proofs.Common.{[], ◌≡◌, ℕ, Bool, true, false, not, ◌&&◌, refl, sym, ap, ◌∙◌, subst, inl, inr, arith, List}
use Rattle.std.specs.List.{filter}
use Rattle.std.specs.List.Sorted.{IsStrictlyIncreasing}
use Rattle.std.proofs.lemmas.Bool.{cases_Bool, and_parts}
use Rattle.std.proofs.lemmas.List.Kept.{IsStrictlyIncreasing-filter}
use Rattle.vpf_darts.specs.declared.darts.TileDart.{TileDart}
use Rattle.vpf_darts.specs.Inner.Laws.{RemovalLeavesAMap}
use Rattle.vpf_prims.specs.Primitives.{Library}
use Rattle.vpf_wing.specs.Links.{links_of}
use Rattle.vpf_wing.specs.Inner.DartLaws.{darts-stand, stands_in}
use Rattle.vpf_cross.specs.FollowLaws.{home_has}
use Rattle.vpf_cross.specs.Following.{is_home}
use Rattle.vpf_cross.specs.VpfFollowLaws.{HomesExist}
use Rattle.vpf_trace.specs.Inner.Gathering.{AreKeptAmong}
use Rattle.vpf_wing.specs.Inner.Kept.Kept.{AreKept}
use Rattle.vpf_trace.specs.Tracing.{IsTraceable, KeptAreLeft, LinesAreMarked, is_kept, is_on_line, map_of_library, tile_lines}
use Rattle.vpf_trace.proofs.LineLemmas.{library_has_kept, library_has_lines}
use Rattle.vpf_trace.specs.Inner.LineLaws.{library_is_map}
use Rattle.vpf_trace.specs.Inner.GatherLaws.{darts_rise, stands_in_filter as stands_filter}

-- no dart is gathered yet
pub none_yet : (L : Library) → AreKeptAmong L [] []
none_yet L = record { numbers = refl; small = λ i d h. absurd (omega arith) }

-- ---- they rise

-- ---- all of them are the darts that a walk past lines keeps

kept_stands : (L : Library) (d : ℕ) → (is_kept L d && stands_in d (links_of L).darts) ≡ is_kept L d
kept_stands L d = elim (cases_Bool (is_kept L d)) [
  | inl t ↦ (
      let home = (and_parts (is_home (links_of L) d) (not (is_on_line L d)) t).0 in
      let s = darts-stand L d (home_has (links_of L) d home) in
      ap (λ b. is_kept L d && b) s ∙ with_true (is_kept L d))
  | inr f ↦ ap (λ b. b && stands_in d (links_of L).darts) f ∙ sym f
]
  where
    with_true : (b : Bool) → (b && true) ≡ b
    with_true true = refl
    with_true false = refl

pub gathered : HomesExist → RemovalLeavesAMap → (L : Library) → IsTraceable L → (darts : List TileDart) → AreKeptAmong L (links_of L).darts darts
    → AreKept (map_of_library L) (tile_lines L) darts
gathered law removal L a darts k =
    let left : KeptAreLeft L = library_has_kept law removal L a in
    let lines : LinesAreMarked L = library_has_lines law L a in
    record {
      is_map = library_is_map law L a;
      edges = lines.edges;
      in_order = record { small = k.small; rise = subst IsStrictlyIncreasing (sym k.numbers) (IsStrictlyIncreasing-filter (is_kept L) (links_of L).darts (darts_rise L a.few)) };
      kept = λ d. ap (stands_in d) k.numbers ∙ stands_filter (is_kept L) d (links_of L).darts ∙ kept_stands L d ∙ sym (left.kept d);
    }
