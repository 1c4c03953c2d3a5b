-- An untiled coverage without findings: its tables are there, their columns are right, and what they say is well formed.
use Rattle.std.proofs.Common.{◌≡◌, ℕ, zero, suc, ◌+◌, ◌<◌, ◌≤◌, ◌^◌, Bool, true, false, refl, sym, ap, ◌∙◌, subst, arith, Option, None, Some, length}
use Rattle.std.proofs.Math.Dec.{eqb-suc-zero}
use Rattle.std.proofs.lemmas.List.{length-map}
use mathlib.Core.Path.{fun_ext}
use Rattle.vpf_findings.specs.Findings.{Disagreement}
use Rattle.vpf_findings.specs.Inner.FirstLaws.{or-none_both, over_none}
use Rattle.vpf_prims.specs.Coverages.{CoverageTables, last_tile, tile_at}
use Rattle.vpf_prims.specs.Libraries.{IsLibrary, in_tile, in_tiles, library_of, primitives_in}
use Rattle.vpf_prims.specs.Numbering.{IsNumbered}
use Rattle.vpf_prims.specs.Primitives.{Library, Primitives, edge_count, has_tables, is_there, untiled}
use Rattle.vpf_prims.specs.Reading.{edge_in_row, primitives_of}
use Rattle.vpf_prims.specs.Suiting.{HasColumns}
use Rattle.vpf_prims.specs.Tables.{TileTables}
use Rattle.vpf_numbers.specs.Inner.Laws.{CoverageNumbersDecide}
use Rattle.vpf_numbers.specs.TableLines.{coverage_numbers}
use Rattle.vpf_wing.specs.CycleLines.{cycles_finding, loops_finding}
use Rattle.vpf_wing.specs.Inner.DartLaws.{never_both}
use Rattle.vpf_wing.specs.Inner.Laws.{CyclesDecide, LoopsDecide}
use Rattle.vpf_wing.specs.WellFormed.{IsWellFormed}
use Rattle.vpf_cross.specs.CrossFinding.{topology_finding, topology_finding_of}

-- an untiled coverage without findings
pub record IsUntiledChecked (c : CoverageTables) : Type 0 where
  pub untiled : c.is_tiled ≡ false
  pub library : IsLibrary (library_of c)
  pub numbers : coverage_numbers c ≡ None
  pub topology : topology_finding c ≡ None

-- what decides that it is well formed
pub record FindingsDecide : Type 0 where
  pub numbers : CoverageNumbersDecide
  pub loops : LoopsDecide
  pub cycles : CyclesDecide

-- what is known of a coverage and of the same one borrowed
pub untiled_checked : (v c : CoverageTables) → v ≡ c → c.is_tiled ≡ false → IsLibrary (library_of v) → coverage_numbers v ≡ None → topology_finding c ≡ None → IsUntiledChecked c
untiled_checked v c same un library numbers topology = record {
  untiled = un;
  library = subst (λ (x : CoverageTables). IsLibrary (library_of x)) same library;
  numbers = subst (λ (x : CoverageTables). coverage_numbers x ≡ None) same numbers;
  topology = topology;
}

nothing_there : (L : Library) → L.tile 0 ≡ None → has_tables L 0 ≡ false
nothing_there L h = ap is_there h

-- its tile has tables
pub untiled_tile : (c : CoverageTables) → IsUntiledChecked c → tile_at c 0 ≡ None → ⊥
untiled_tile c u none = (
    let lib = u.library in
    let last : (library_of c).last ≡ 0 = lib.one u.untiled in
    some_tile lib.some lib.has_some last)
  where
    some_tile : (n : ℕ) → has_tables (library_of c) n ≡ true → (library_of c).last ≡ 0 → ⊥
    some_tile zero h last = never_both (has_tables (library_of c) 0) h (nothing_there (library_of c) (ap primitives_in none))
    some_tile (suc n) h last = never_both (has_tables (library_of c) (suc n)) h (ap is_there (u.library.none_after (suc n) (omega arith)))

tile_alone : (c : CoverageTables) (T : TileTables) → IsUntiledChecked c → tile_at c 0 ≡ Some T → (t : ℕ) → (library_of c).tile t ≡ (untiled (primitives_of T.tables)).tile t
tile_alone c T u at zero = ap primitives_in at
tile_alone c T u at (suc t) =
    let last : (library_of c).last ≡ 0 = u.library.one u.untiled in
    u.library.none_after (suc t) (omega arith) ∙ sym (rw (eqb-suc-zero t) refl)

-- it is the library of what its tables say
library_alone : (c : CoverageTables) (T : TileTables) → IsUntiledChecked c → tile_at c 0 ≡ Some T → library_of c ≡ untiled (primitives_of T.tables)
library_alone c T u at =
    ap (λ (b : Bool). record { is_tiled = b; last = last_tile c; tile = (library_of c).tile }) u.untiled
    ∙ ap (λ (n : ℕ). record { is_tiled = false; last = n; tile = (library_of c).tile }) (u.library.one u.untiled)
    ∙ ap (λ (tile : ℕ → Option Primitives). record { is_tiled = false; last = 0; tile = tile }) (fun_ext (tile_alone c T u at))

found_alone : (rule : ℕ → TileTables → Option Disagreement) (c : CoverageTables) (T : TileTables) → tile_at c 0 ≡ Some T → in_tiles rule c ≡ None → rule 0 T ≡ None
unfolding in_tiles
found_alone rule c T at none =
    ap (in_tile (rule 0)) (sym at) ∙ over_none (λ t. in_tile (rule t) (tile_at c t)) 0 (last_tile c + 1) none 0 (omega arith) (omega arith)

-- the columns of its tables are right
pub untiled_columns : FindingsDecide → (c : CoverageTables) (T : TileTables) → IsUntiledChecked c → tile_at c 0 ≡ Some T → HasColumns T.tables
untiled_columns d c T u at = ((d.numbers c).0 u.numbers).0.suit 0 T at

-- and it is well formed
pub untiled_well_formed : FindingsDecide → (c : CoverageTables) (T : TileTables) → IsUntiledChecked c → tile_at c 0 ≡ Some T
    → length (primitives_of T.tables).edges < 2 ^ 24 → IsWellFormed (primitives_of T.tables)
untiled_well_formed d c T u at few =
    let alone : library_of c ≡ untiled (primitives_of T.tables) = library_alone c T u at in
    let rules : (in_tiles loops_finding c ≡ None) × (in_tiles cycles_finding c ≡ None) =
    or-none_both (in_tiles loops_finding c) (in_tiles cycles_finding c) (ap (λ b. topology_finding_of b c) (sym u.untiled) ∙ u.topology) in
    let there : has_tables (library_of c) 0 ≡ true = ap (λ o. is_there (primitives_in o)) at in
    let numbered : IsNumbered (untiled (primitives_of T.tables)) 0 = subst (λ (L : Library). IsNumbered L 0) alone (((d.numbers c).0 u.numbers).1 0 there) in
    let rows : length T.tables.edg.rows < 2 ^ 24 = subst (λ n. n < 2 ^ 24) (length-map T.tables.edg.rows (edge_in_row T.tables.edg.head.columns)) few in
    let edges : edge_count (untiled (primitives_of T.tables)) 0 < 2 ^ 24 = few in
    let low : 0 ≤ (untiled (primitives_of T.tables)).last = omega arith in
    record {
      numbered = numbered;
      loops = (d.loops T rows).0 (found_alone loops_finding c T at rules.0);
      cycles = (d.cycles (untiled (primitives_of T.tables)) 0 T refl low edges numbered).0 (found_alone cycles_finding c T at rules.1);
    }
