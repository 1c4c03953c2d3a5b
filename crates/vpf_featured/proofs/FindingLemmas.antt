-- The first finding of several looks, one behind another.
use Rattle.std.proofs.Common.{◌≡◌, List, None, Ok, Err, Option, rules, subst}
use Rattle.std.specs.Prelude.{IfOk, Result}
use Rattle.vpf_source.specs.declared.file.File.{File}
use Rattle.vpf_findings.specs.Findings.{Disagreement}
use Rattle.vpf_findings.specs.Firsts.{◌or◌}
use Rattle.vpf_prims.specs.Coverages.{CoverageTables}
use Rattle.vpf_cross.specs.CrossFinding.{topology_finding}
use Rattle.vpf_features.specs.declared.faults.FeatureFault.{FeatureFault}
use Rattle.vpf_features.specs.Finding.{Named, TellsNamed}
use Rattle.vpf_featured.specs.Finding.{placed_finding}

-- where the first look finds nothing, what a later one tells is told of both
pub tells_behind : (V : Type 0) (r : Result V FeatureFault) (first later : Option Named) → first ≡ None → TellsNamed r later → TellsNamed r (first or later)
tells_behind V r first later none told = rw none told

-- of the same files
pub placed_same : (here there : List File) (first : Option Disagreement) → here ≡ there → placed_finding here first ≡ None → placed_finding there first ≡ None
placed_same here there first e none = subst (λ (files : List File). placed_finding files first ≡ None) e none

-- .. and of the same coverage
pub topology_same : (V : Type 0) (r : Result V FeatureFault) (here there : List File) (c d : CoverageTables) → here ≡ there → c ≡ d
    → TellsNamed r (placed_finding here (topology_finding c)) → TellsNamed r (placed_finding there (topology_finding d))
topology_same V r here there c d e f told =
    subst (λ (files : List File). TellsNamed r (placed_finding files (topology_finding d))) e
    (subst (λ (x : CoverageTables). TellsNamed r (placed_finding here (topology_finding x))) f told)

-- what is so of a value is so of it in other words
pub if_ok_more : (V : Type 0) (P Q : V → Type 0) (r : Result V FeatureFault) → ((v : V) → P v → Q v) → IfOk r P → IfOk r Q
if_ok_more V P Q (Ok v) more h = more v h
if_ok_more V P Q (Err x) more h = search rules
