-- A coverage in whose topology nothing disagrees can be traced.
use Rattle.std.proofs.Common.{◌≡◌, ℕ, Bool, true, false, cond, eqb, nat_eq, sym, ap, ◌∙◌, subst, inl, inr, Option, Some, None, refl}
use Rattle.std.specs.Option.{option_eq}
use Rattle.std.proofs.lemmas.Bool.{cases_Bool, eqb-true}
use Rattle.vpf_darts.specs.Darts.{code, tile_in, edge_in, sign_in, sign_of}
use Rattle.vpf_findings.specs.Findings.{Disagreement}
use Rattle.vpf_findings.specs.Firsts.{◌or◌}
use Rattle.vpf_findings.specs.Inner.FirstLaws.{or-none_both}
use Rattle.vpf_prims.specs.Coverages.{CoverageTables, tile_at}
use Rattle.vpf_prims.specs.Libraries.{IsLibrary, in_tiles, library_of, primitives_in}
use Rattle.vpf_prims.specs.Primitives.{is_there}
use Rattle.vpf_prims.specs.Tables.{TileTables}
use Rattle.vpf_numbers.specs.Inner.Laws.{CoverageNumbersDecide}
use Rattle.vpf_numbers.specs.TableLines.{coverage_numbers}
use Rattle.vpf_wing.specs.CycleLines.{cycles_finding, loops_finding}
use Rattle.vpf_wing.specs.Inner.Laws.{CyclesDecide}
use Rattle.vpf_wing.specs.Links.{DartLinks, is_minus}
use Rattle.vpf_wing.specs.Inner.DartLaws.{code-minus, code-sign, never_both, sign-small}
use Rattle.vpf_cross.specs.FollowLaws.{outside_has}
use Rattle.vpf_cross.specs.FollowLines.{follows_finding}
use Rattle.vpf_cross.specs.Following.{home_copy, is_outside}
use Rattle.vpf_cross.specs.VpfFollowLaws.{FollowersDecide}
use Rattle.vpf_cross.specs.Sided.{HasFollowers}
use Rattle.vpf_cross.specs.SideLines.{sides_finding}
use Rattle.vpf_cross.specs.TileLaws.{TileOfDart, dart-tile, darts-none, options-same, tile-below, tiles-none, unless-none}
use Rattle.vpf_cross.specs.CarriedLines.{carried_finding, inhabited_finding}
use Rattle.vpf_cross.specs.CrossFinding.{across_finding, topology_finding, topology_finding_of}
use Rattle.vpf_cross.specs.HomeLines.{coverage_links, home_carried_line, home_flip_line, home_lines, home_mark_line, home_sign_line, homes_finding, outside_lines}
use Rattle.vpf_cross.specs.Inner.Laws.{AreNumbered, HomesFlipBack}
use Rattle.vpf_cross.specs.RoundLines.{rounds_finding}
use Rattle.vpf_trace.specs.Tracing.{IsTraceable}
use Rattle.vpf_trace.specs.Inner.AgreeLaws.{followed, untiled_traceable}
use Rattle.vpf_trace.specs.Inner.UntiledLaws.{IsUntiled}

pub record SharesEdge (C : DartLinks) (d : ℕ) : Type 0 where
  pub signs : sign_in (home_copy C d) ≡ sign_in d
  pub marks : C.mark d ≡ C.mark (home_copy C d)

lines_none : (c : CoverageTables) (t : ℕ) (T : TileTables) (k : ℕ) (m : Bool) → home_lines c t T k m ≡ None → SharesEdge (coverage_links c) (code t k (sign_of m))
lines_none c t T k m none =
    let C : DartLinks = coverage_links c in
    let d : ℕ = code t k (sign_of m) in
    let x = or-none_both (home_flip_line C t T k m) (home_sign_line C t T k m or home_mark_line c t T k m or home_carried_line C t T k m) none in
    let y = or-none_both (home_sign_line C t T k m) (home_mark_line c t T k m or home_carried_line C t T k m) x.1 in
    let z = or-none_both (home_mark_line c t T k m) (home_carried_line C t T k m) y.1 in
    record {
      signs = eqb-true _ _ (unless-none (eqb (sign_in (home_copy C d)) (sign_of m)) _ y.0) ∙ sym (code-sign t k (sign_of m) (sign-small m));
      marks = options-same _ _ (unless-none (option_eq nat_eq (C.mark d) (C.mark (home_copy C d))) _ z.0);
    }

shares : (c : CoverageTables) → in_tiles (homes_finding c) c ≡ None → (d : ℕ) → is_outside (coverage_links c) d ≡ true → SharesEdge (coverage_links c) d
shares c none d out =
    let i : TileOfDart c d = dart-tile c d (outside_has (coverage_links c) d out) in
    let line = darts-none (outside_lines c) false c none (tile_in d) i.tables (edge_in d) (is_minus d) i.at i.from_one i.to_count in
    let out' = subst (λ x. is_outside (coverage_links c) x ≡ true) (sym (code-minus d)) out in
    let lines : home_lines c (tile_in d) i.tables (edge_in d) (is_minus d) ≡ None =
    sym (ap (λ b. cond b (home_lines c (tile_in d) i.tables (edge_in d) (is_minus d)) None) out') ∙ line in
    subst (SharesEdge (coverage_links c)) (code-minus d) (lines_none c (tile_in d) i.tables (edge_in d) (is_minus d) lines)

-- the laws of the crates below
pub record LawsBelow : Type 0 where
  pub numbers : CoverageNumbersDecide
  pub cycles : CyclesDecide
  pub followers : FollowersDecide
  pub flips : HomesFlipBack

tiled_case : LawsBelow → (c : CoverageTables) → IsLibrary (library_of c) → c.is_tiled ≡ true → topology_finding_of true c ≡ None → IsTraceable (library_of c)
tiled_case laws c lib is none =
    let C : DartLinks = coverage_links c in
    let x : Option Disagreement = in_tiles (rounds_finding (coverage_links c)) c or in_tiles (carried_finding (library_of c)) c or in_tiles inhabited_finding c in
    let p = or-none_both (in_tiles sides_finding c) (in_tiles cycles_finding c or across_finding c) none in
    let q = or-none_both (in_tiles cycles_finding c) (across_finding c) p.1 in
    let r = or-none_both (in_tiles (follows_finding C) c) (in_tiles (homes_finding c) c or x) q.1 in
    let homes : in_tiles (homes_finding c) c ≡ None = (or-none_both (in_tiles (homes_finding c) c) x r.1).0 in
    let follows : HasFollowers (coverage_links c) = (laws.followers c lib.few).0 r.0 in
    record {
      few = lib.few;
      follows = followed C follows;
      follow_apart = follows.follow_apart;
      flips = laws.flips c lib.few homes;
      signs = λ d out. (shares c homes d out).signs;
      marks = λ d out. (shares c homes d out).marks;
      all_home = λ un d has. absurd (never_both c.is_tiled is un);
    }

tables_are_there : (o : Option TileTables) → is_there (primitives_in o) ≡ true → (T : TileTables) × (o ≡ Some T)
tables_are_there None h = absurd (never_both false h refl)
tables_are_there (Some T) h = (T, refl)

untiled_case : LawsBelow → (c : CoverageTables) → IsLibrary (library_of c) → AreNumbered (library_of c) → c.is_tiled ≡ false → topology_finding_of false c ≡ None → IsUntiled (library_of c)
untiled_case laws c lib numbered un none =
    let cycles : in_tiles cycles_finding c ≡ None = (or-none_both (in_tiles loops_finding c) (in_tiles cycles_finding c) none).1 in
    record {
      untiled = un;
      library = lib;
      numbered = numbered;
      cycles = λ t has. (
          let T : (T : TileTables) × (tile_at c t ≡ Some T) = tables_are_there (tile_at c t) has in
          (laws.cycles (library_of c) t T.0 (ap primitives_in T.1) (tile-below c t T.0 T.1) (lib.few t) (numbered t has)).0 (tiles-none cycles_finding c cycles t T.0 T.1));
    }

pub checked_traceable : LawsBelow → (c : CoverageTables) → IsLibrary (library_of c) → coverage_numbers c ≡ None → topology_finding c ≡ None → IsTraceable (library_of c)
checked_traceable laws c lib numbers none = elim (cases_Bool c.is_tiled) [
  | inl is ↦ tiled_case laws c lib is (sym (ap (λ b. topology_finding_of b c) is) ∙ none)
  | inr un ↦ untiled_traceable (library_of c) (untiled_case laws c lib ((laws.numbers c).0 numbers).1 un (sym (ap (λ b. topology_finding_of b c) un) ∙ none))
]
