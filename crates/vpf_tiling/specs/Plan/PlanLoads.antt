-- The files of a plan, read one after another up to the first that isn't taken.
use Rattle.std.specs.Prelude.{ℕ, List, Option, Some, None, Result, Ok, Err}
use Rattle.vpf_source.specs.Files.{Files}
use Rattle.vpf_source.specs.declared.file.File.{File}
use Rattle.vpf_table.specs.Grid.{Grid}
use Rattle.vpf_findings.specs.Findings.{Disagreement}
use Rattle.vpf_findings.specs.Printing.{own_of}
use Rattle.vpf_library_files.specs.declared.loading.loading.LoadStop.{LoadStop}
use Rattle.vpf_library_files.specs.declared.loading.loading.LoadStop.TheVariants as stops
use Rattle.vpf_library_files.specs.Loading.Holding.{AreFilesOf}
use Rattle.vpf_library_files.specs.Loading.Loading.{Read, LoadedTable, ◌and_then◌, read_table}
use Rattle.vpf_tiling.specs.Plan.Plans.{IsPlanTable, plan_finding}

-- a value, unless there is a finding in the file of this name
abbrev pub unless_found : {V : Type 0} → (name : List ℕ) → Option Disagreement → V → Result V LoadStop
unless_found name None v = Ok v
unless_found name (Some d) v = Err (stops.Finding name (own_of d))

-- the plan of this name, whose columns are looked at when it is read
abbrev pub read_plan : Files → (name : List ℕ) → ℕ → Read LoadedTable
read_plan files name loaded = read_table files name loaded and_then λ table n. (unless_found name (plan_finding table.grid) table, n)

-- these files are this plan, the table of this name
pub record ArePlanFiles (name : List ℕ) (grid : Grid) (files : List File) : Type 0 where
  pub are : AreFilesOf name grid files
  pub plan : IsPlanTable grid

-- they are some plan of this name
abbrev pub AreOfPlan : (name : List ℕ) → List File → Type 0
AreOfPlan name files = (grid : Grid) × ArePlanFiles name grid files
