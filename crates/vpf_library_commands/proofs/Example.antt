-- The example computes, and is well formed.
use Rattle.std.proofs.Common.{◌≡◌, ℕ, zero, suc, ◌<◌, ◌≤◌, ◌^◌, Option, None, false, length, refl, ap, subst, arith}
use Rattle.std.proofs.Math.Dec.{eqb-suc-zero}
use Rattle.std.proofs.lemmas.List.{length-map}
use mathlib.Core.Path.{fun_ext}
use Rattle.vpf_darts.specs.Darts.{code}
use Rattle.vpf_findings.specs.Findings.{Disagreement}
use Rattle.vpf_findings.specs.Inner.FirstLaws.{or-none_both}
use Rattle.vpf_prims.specs.Coverages.{untiled_coverage}
use Rattle.vpf_prims.specs.Libraries.{in_tiles, library_of}
use Rattle.vpf_prims.specs.Numbering.{IsNumbered}
use Rattle.vpf_prims.specs.Primitives.{Library, Primitives, edge_count, untiled}
use Rattle.vpf_prims.specs.Reading.{edge_in_row, primitives_of}
use Rattle.vpf_prims.specs.Suiting.{HasColumns}
use Rattle.vpf_prims.specs.Tables.{TileTables}
use Rattle.vpf_numbers.specs.Inner.Laws.{CoverageNumbersDecide}
use Rattle.vpf_numbers.specs.TableLines.{coverage_numbers, numbers_finding}
use Rattle.vpf_wing.specs.Nexts.{tail, face, wing, next_dart}
use Rattle.vpf_wing.specs.Places.{next_place, least_place}
use Rattle.vpf_wing.specs.CycleLines.{cycles_finding, loops_finding, ring_cycle, ring_dart}
use Rattle.vpf_wing.specs.Inner.Laws.{CyclesDecide, LoopsDecide}
use Rattle.vpf_wing.specs.WellFormed.{IsWellFormed}
use Rattle.vpf_cross.specs.CrossFinding.{topology_finding}
use Rattle.vpf_library_commands.specs.Check.{coverage_finding}
use Rattle.vpf_library_commands.specs.Inner.Example.{ExampleIsFound, ExampleIsWellFormed, example_edges, example_tile}

pub example_is_found : ExampleIsFound
unfolding code numbers_finding in_tiles tail face wing next_dart next_place least_place cycles_finding ring_cycle ring_dart
example_is_found = (refl, refl)

-- ---- an untiled coverage without findings is well formed

pub tile_alone : (T : TileTables) (t : ℕ) → (library_of (untiled_coverage T)).tile t ≡ (untiled (primitives_of T.tables)).tile t
tile_alone T zero = refl
tile_alone T (suc t) = rw (eqb-suc-zero t) refl

pub library_alone : (T : TileTables) → library_of (untiled_coverage T) ≡ untiled (primitives_of T.tables)
library_alone T = ap (λ (tile : ℕ → Option Primitives). record { is_tiled = false; last = 0; tile = tile }) (fun_ext (tile_alone T))

found_alone : (rule : ℕ → TileTables → Option Disagreement) (T : TileTables) → in_tiles rule (untiled_coverage T) ≡ None → rule 0 T ≡ None
unfolding in_tiles
found_alone rule T none = (or-none_both (rule 0 T) None none).0

well_formed : CoverageNumbersDecide → LoopsDecide → CyclesDecide → (T : TileTables) → length T.tables.edg.rows < 2 ^ 24 → coverage_finding (untiled_coverage T) ≡ None → HasColumns T.tables × IsWellFormed (primitives_of T.tables)
well_formed numbers loops cycles T few none =
    let apart : (coverage_numbers (untiled_coverage T) ≡ None) × (topology_finding (untiled_coverage T) ≡ None) = or-none_both (coverage_numbers (untiled_coverage T)) (topology_finding (untiled_coverage T)) none in
    let rules : (in_tiles loops_finding (untiled_coverage T) ≡ None) × (in_tiles cycles_finding (untiled_coverage T) ≡ None) = or-none_both (in_tiles loops_finding (untiled_coverage T)) (in_tiles cycles_finding (untiled_coverage T)) apart.1 in
    let right = (numbers (untiled_coverage T)).0 apart.0 in
    let numbered : IsNumbered (untiled (primitives_of T.tables)) 0 = subst (λ (L : Library). IsNumbered L 0) (library_alone T) (right.1 0 refl) in
    let edges : edge_count (untiled (primitives_of T.tables)) 0 < 2 ^ 24 = rw (length-map T.tables.edg.rows (edge_in_row T.tables.edg.head.columns)) few in
    let low : 0 ≤ (untiled (primitives_of T.tables)).last = omega arith in (
      right.0.suit 0 T refl,
      record {
        numbered = numbered;
        loops = (loops T few).0 (found_alone loops_finding T rules.0);
        cycles = (cycles (untiled (primitives_of T.tables)) 0 T refl low edges numbered).0 (found_alone cycles_finding T rules.1);
      },
    )

few : length example_edges.rows < 2 ^ 24
few = (let z : length example_edges.rows ≡ 3 = refl in omega arith)

pub example_is_well_formed : CoverageNumbersDecide → LoopsDecide → CyclesDecide → ExampleIsWellFormed
example_is_well_formed numbers loops cycles = well_formed numbers loops cycles (example_tile 2) few example_is_found.0
