-- What an error of an edge table tells.
use Rattle.std.specs.Prelude.{◌≡◌, true, false, Some}
use Rattle.vpf_head.specs.Head.{varies_in}
use Rattle.vpf_prims.specs.Grid.{Grid}
use Rattle.vpf_findings.specs.Findings.{disagreement_of}
use Rattle.vpf_findings.specs.declared.errors.FindError.{FindError}
use Rattle.vpf_findings.specs.declared.errors.FindError.TheVariants as found
use Rattle.vpf_wing.specs.declared.errors.EdgeError.{EdgeError}
use Rattle.vpf_wing.specs.declared.errors.EdgeError.TheVariants as errors
use Rattle.vpf_wing.specs.Boundaries.{table_finding}

-- its rows vary, or they don't and this is its first finding; nothing is said of a want of memory
abbrev pub TellsEdges : Grid → EdgeError → Type 0
TellsEdges grid errors.Varies = varies_in grid.head.columns ≡ true
TellsEdges grid (errors.Finding f) = (varies_in grid.head.columns ≡ false) × (table_finding grid ≡ Some (disagreement_of f))
TellsEdges grid errors.NoMemory = Unit {0}

-- the same error of a table
abbrev pub IsFound : FindError → EdgeError → Type 0
IsFound (found.Finding f) e = e ≡ errors.Finding f
IsFound found.NoMemory e = e ≡ errors.NoMemory
