-- A coverage in whose topology nothing disagrees can be glued.
use Rattle.std.proofs.Common.{◌≡◌, ℕ, true, false, ap, sym, ◌∙◌, inl, inr, None, Option, Some, refl}
use Rattle.std.proofs.lemmas.Bool.{cases_Bool}
use Rattle.vpf_findings.specs.Firsts.{◌or◌}
use Rattle.vpf_findings.specs.Inner.FirstLaws.{or-none_both}
use Rattle.vpf_prims.specs.Coverages.{CoverageTables, tile_at}
use Rattle.vpf_prims.specs.Libraries.{IsLibrary, in_tiles, library_of, primitives_in}
use Rattle.vpf_prims.specs.Numbering.{IsNumbered}
use Rattle.vpf_prims.specs.Primitives.{has_tables, is_there}
use Rattle.vpf_prims.specs.Tables.{TileTables}
use Rattle.vpf_wing.specs.CycleLines.{cycles_finding, loops_finding}
use Rattle.vpf_wing.specs.Inner.DartLaws.{never_both}
use Rattle.vpf_wing.specs.Inner.Laws.{CyclesDecide}
use Rattle.vpf_wing.specs.WellFormed.{HasCycles}
use Rattle.vpf_follow.specs.SideLines.{sides_finding}
use Rattle.vpf_follow.specs.Inner.TileLaws.{tile-below, tiles-none}
use Rattle.vpf_cross.specs.CrossFinding.{across_finding, topology_finding, topology_finding_of}

-- nothing disagrees in the cycles of its tiles
no_cycles : (c : CoverageTables) → topology_finding c ≡ None → in_tiles cycles_finding c ≡ None
no_cycles c none = elim (cases_Bool c.is_tiled) [
  | inl is ↦ (
      let all : topology_finding_of true c ≡ None = sym (ap (λ b. topology_finding_of b c) is) ∙ none in
      (or-none_both (in_tiles cycles_finding c) (across_finding c)
      (or-none_both (in_tiles sides_finding c) (in_tiles cycles_finding c or across_finding c) all).1).0)
  | inr un ↦ (
      let all : topology_finding_of false c ≡ None = sym (ap (λ b. topology_finding_of b c) un) ∙ none in
      (or-none_both (in_tiles loops_finding c) (in_tiles cycles_finding c) all).1)
]

tables_there : (o : Option TileTables) → is_there (primitives_in o) ≡ true → (T : TileTables) × (o ≡ Some T)
tables_there None h = absurd (never_both false h refl)
tables_there (Some T) h = (T, refl)

-- so these hold
pub cycles_hold : CyclesDecide → (c : CoverageTables) → IsLibrary (library_of c) → ((t : ℕ) → has_tables (library_of c) t ≡ true → IsNumbered (library_of c) t)
    → topology_finding c ≡ None → (t : ℕ) → has_tables (library_of c) t ≡ true → HasCycles (library_of c) t
cycles_hold law c lib numbered none t has =
    let T : (T : TileTables) × (tile_at c t ≡ Some T) = tables_there (tile_at c t) has in
    (law (library_of c) t T.0 (ap primitives_in T.1) (tile-below c t T.0 T.1) (lib.few t) (numbered t has)).0 (tiles-none cycles_finding c (no_cycles c none) t T.0 T.1)
