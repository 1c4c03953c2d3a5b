-- Where its numbers are right, there is no finding on the topology of a coverage exactly where it agrees.
use Rattle.std.proofs.Common.{◌≡◌, ◌↔◌, ℕ, true, false, sym, ap, ◌∙◌, inl, inr, Option, Some, None}
use Rattle.std.proofs.lemmas.Bool.{cases_Bool}
use Rattle.vpf_darts.specs.Inner.Laws.{DartLiesOnCycle}
use Rattle.vpf_findings.specs.Findings.{Disagreement}
use Rattle.vpf_findings.specs.Firsts.{◌or◌}
use Rattle.vpf_findings.specs.Inner.FirstLaws.{or-none_both}
use Rattle.vpf_prims.specs.Primitives.{Library, has_tables}
use Rattle.vpf_prims.specs.Tables.{TileTables}
use Rattle.vpf_prims.specs.Coverages.{CoverageTables, tile_at}
use Rattle.vpf_wing.specs.CycleLines.{loops_finding, cycles_finding}
use Rattle.vpf_wing.specs.WellFormed.{HasCycles}
use Rattle.vpf_wing.specs.Inner.Laws.{CyclesDecide}
use Rattle.vpf_prims.specs.Libraries.{IsLibrary, primitives_in, library_of, in_tiles}
use Rattle.vpf_follow.specs.SideLines.{sides_finding}
use Rattle.vpf_follow.specs.FollowLines.{follows_finding}
use Rattle.vpf_follow.specs.Sided.{HasSides, HasFollowers}
use Rattle.vpf_follow.specs.Inner.Laws.{SidesDecide, FollowersDecide, TileLoopsDecide, HomesExist}
use Rattle.vpf_wing.specs.Inner.DartLaws.{never_both}
use Rattle.vpf_follow.specs.Inner.TileLaws.{or-silent, tile-below, tiles-none, tiles-silent}
use Rattle.vpf_cross.specs.HomeLines.{coverage_links, homes_finding}
use Rattle.vpf_cross.specs.RoundLines.{rounds_finding}
use Rattle.vpf_cross.specs.CarriedLines.{carried_finding, inhabited_finding}
use Rattle.vpf_cross.specs.CrossFinding.{across_finding, topology_finding_of, topology_finding}
use Rattle.vpf_cross.specs.Agreeing.{HasHomes, AgreesAcross, LibraryAgrees}
use Rattle.vpf_cross.specs.Inner.Laws.{AreWhole, AreNumbered, AgreementDecides}
use Rattle.vpf_cross.proofs.LawNumbered.{tables_of_tile, tile_has_tables}
use Rattle.vpf_cross.proofs.LawHomes.{homes_decide}
use Rattle.vpf_cross.proofs.LawRounds.{rounds_decide}
use Rattle.vpf_cross.proofs.LawCarried.{carried_decides}
use Rattle.vpf_cross.proofs.LawInhabited.{inhabited_decides}

-- the laws of the crates below
pub record LawsBelow : Type 0 where
  pub cycles : CyclesDecide
  pub loops : TileLoopsDecide
  pub sides : SidesDecide
  pub followers : FollowersDecide
  pub homes : HomesExist
  pub lies : DartLiesOnCycle

abbrev HaveCycles : Library → Type 0
HaveCycles L = (t : ℕ) → has_tables L t ≡ true → HasCycles L t

-- there is no finding on the cycles of the tiles exactly where each has them
cycles_decide : CyclesDecide → (c : CoverageTables) → IsLibrary (library_of c) → AreNumbered (library_of c)
    → (in_tiles cycles_finding c ≡ None) ↔ HaveCycles (library_of c)
cycles_decide law c lib numbered =
    let decides : (t : ℕ) (T : TileTables) → tile_at c t ≡ Some T → (cycles_finding t T ≡ None) ↔ HasCycles (library_of c) t = λ t T e.
    law (library_of c) t T (ap primitives_in e) (tile-below c t T e) (lib.few t) (numbered t (tile_has_tables c t T e)) in (
      λ none t has. (let T = tables_of_tile c t has in (decides t T.0 T.1).0 (tiles-none cycles_finding c none t T.0 T.1)),
      λ h. tiles-silent cycles_finding c (λ t T e. (decides t T e).1 (h t (tile_has_tables c t T e))),
    )

module _ (laws : LawsBelow) (c : CoverageTables) (lib : IsLibrary (library_of c)) (numbered : AreNumbered (library_of c)) (whole : AreWhole c) where
  across_agrees : HasSides (coverage_links c) → HaveCycles (library_of c) → across_finding c ≡ None → AgreesAcross (library_of c)
  across_agrees sides cycles none =
      let C = coverage_links c in
      let v : Option Disagreement = in_tiles inhabited_finding c in
      let w : Option Disagreement = in_tiles (carried_finding (library_of c)) c or in_tiles inhabited_finding c in
      let x : Option Disagreement =
      in_tiles (rounds_finding (coverage_links c)) c or in_tiles (carried_finding (library_of c)) c or in_tiles inhabited_finding c in
      let p = or-none_both (in_tiles (follows_finding C) c) (in_tiles (homes_finding c) c or x) none in
      let q = or-none_both (in_tiles (homes_finding c) c) x p.1 in
      let r = or-none_both (in_tiles (rounds_finding C) c) w q.1 in
      let s = or-none_both (in_tiles (carried_finding (library_of c)) c) v r.1 in
      let followers : HasFollowers (coverage_links c) = (laws.followers c lib.few).0 p.0 in
      let homes : HasHomes (coverage_links c) = (homes_decide laws.homes c lib.few whole followers).0 q.0 in
      record {
        sides = sides;
        follows = followers;
        homes = homes;
        rounds = (rounds_decide laws.lies laws.homes c lib.few numbered cycles sides followers homes).0 r.0;
        carried = (carried_decides c lib.few whole numbered).0 s.0;
        inhabited = (inhabited_decides c).0 s.1;
      }

  across_silent : HaveCycles (library_of c) → AgreesAcross (library_of c) → across_finding c ≡ None
  across_silent cycles a =
      let C = coverage_links c in
      or-silent (in_tiles (follows_finding C) c) _ ((laws.followers c lib.few).1 a.follows)
      (or-silent (in_tiles (homes_finding c) c) _ ((homes_decide laws.homes c lib.few whole a.follows).1 a.homes)
      (or-silent (in_tiles (rounds_finding C) c) _ ((rounds_decide laws.lies laws.homes c lib.few numbered cycles a.sides a.follows a.homes).1 a.rounds)
      (or-silent (in_tiles (carried_finding (library_of c)) c) (in_tiles inhabited_finding c) ((carried_decides c lib.few whole numbered).1 a.carried)
      ((inhabited_decides c).1 a.inhabited))))

  tiled_agrees : c.is_tiled ≡ true → topology_finding_of true c ≡ None → LibraryAgrees (library_of c)
  tiled_agrees tiled none =
      let p = or-none_both (in_tiles sides_finding c) (in_tiles cycles_finding c or across_finding c) none in
      let q = or-none_both (in_tiles cycles_finding c) (across_finding c) p.1 in
      let sides : HasSides (coverage_links c) = (laws.sides c lib.few).0 p.0 in
      let cycles : HaveCycles (library_of c) = (cycles_decide laws.cycles c lib numbered).0 q.0 in
      record { library = lib; numbered = numbered; loops = sides.loops; cycles = cycles; across = λ is. across_agrees sides cycles q.1 }

  tiled_silent : AgreesAcross (library_of c) → LibraryAgrees (library_of c) → topology_finding_of true c ≡ None
  tiled_silent a h =
      or-silent (in_tiles sides_finding c) (in_tiles cycles_finding c or across_finding c) ((laws.sides c lib.few).1 a.sides)
      (or-silent (in_tiles cycles_finding c) (across_finding c) ((cycles_decide laws.cycles c lib numbered).1 h.cycles) (across_silent h.cycles a))

  untiled_agrees : c.is_tiled ≡ false → topology_finding_of false c ≡ None → LibraryAgrees (library_of c)
  untiled_agrees untiled none =
      let p = or-none_both (in_tiles loops_finding c) (in_tiles cycles_finding c) none in
      record {
        library = lib;
        numbered = numbered;
        loops = (laws.loops c lib.few).0 p.0;
        cycles = (cycles_decide laws.cycles c lib numbered).0 p.1;
        across = λ tiled. absurd (never_both c.is_tiled tiled untiled);
      }

  untiled_silent : LibraryAgrees (library_of c) → topology_finding_of false c ≡ None
  untiled_silent h =
      or-silent (in_tiles loops_finding c) (in_tiles cycles_finding c) ((laws.loops c lib.few).1 h.loops)
      ((cycles_decide laws.cycles c lib numbered).1 h.cycles)

pub agreement_decides : LawsBelow → AgreementDecides
agreement_decides laws c lib numbered whole = elim (cases_Bool c.is_tiled) [
  | inl tiled ↦ (
      let is : topology_finding c ≡ topology_finding_of true c = ap (λ b. topology_finding_of b c) tiled in (
        λ none. tiled_agrees laws c lib numbered whole tiled (sym is ∙ none),
        λ h. is ∙ tiled_silent laws c lib numbered whole (h.across tiled) h,
      ))
  | inr untiled ↦ (
      let is : topology_finding c ≡ topology_finding_of false c = ap (λ b. topology_finding_of b c) untiled in (
        λ none. untiled_agrees laws c lib numbered whole untiled (sym is ∙ none),
        λ h. is ∙ untiled_silent laws c lib numbered whole h,
      ))
]
