-- What a caller learns of a coverage.
use Rattle.std.specs.Prelude.{◌≡◌, ℕ, true, List, length, None, is_some, Result, Ok, Err}
use Rattle.vpf_findings.specs.Firsts.{◌or◌}
use Rattle.vpf_findings.specs.declared.errors.FindError.{FindError}
use Rattle.vpf_findings.specs.declared.errors.FindError.TheVariants as errors
use Rattle.vpf_prims.specs.Coverages.{CoverageTables}
use Rattle.vpf_prims.specs.Libraries.{library_of}
use Rattle.vpf_numbers.specs.TableLines.{coverage_numbers}
use Rattle.vpf_library_files.specs.declared.loading.loading.LoadStop.{LoadStop}
use Rattle.vpf_library_files.specs.declared.loading.loading.LoadStop.TheVariants as stops
use Rattle.vpf_cross.specs.CrossFinding.{topology_finding}
use Rattle.vpf_trace.specs.Tracing.{IsTrace}
use Rattle.vpf_calling.specs.declared.cycles.Unknown.{Unknown}
use Rattle.vpf_calling.specs.declared.cycles.Unknown.TheVariants as unknown

-- nothing disagrees in a coverage, and so many boundary cycles are listed of it, its lines between tiles passed over
pub record AgreesWithCycles (c : CoverageTables) (n : ℕ) : Type 0 where
  pub numbers : coverage_numbers c ≡ None
  pub topology : topology_finding c ≡ None
  pub lists : List (List ℕ)
  pub cycles : IsTrace (library_of c) lists
  pub count : length lists ≡ n

-- what is learned: the number of cycles of a coverage that agrees, or that it doesn't; a coverage that is read is there
abbrev pub Learns : CoverageTables → Result ℕ Unknown → Type 0
Learns c (Ok n) = AgreesWithCycles c n
Learns c (Err unknown.NotThere) = ⊥
Learns c (Err unknown.Disagrees) = is_some (coverage_numbers c or topology_finding c) ≡ true
Learns c (Err unknown.Fault) = Unit {0}
Learns c (Err unknown.NoMemory) = Unit {0}

-- what a search that stopped says
abbrev pub IsUnfound : FindError → Unknown → Type 0
IsUnfound (errors.Finding f) why = why ≡ unknown.Disagrees
IsUnfound errors.NoMemory why = why ≡ unknown.NoMemory

-- what a load that stopped says
abbrev pub IsUnread : LoadStop → Unknown → Type 0
IsUnread stops.Fault why = why ≡ unknown.Fault
IsUnread stops.NoMemory why = why ≡ unknown.NoMemory
IsUnread stop why = why ≡ unknown.NotThere
