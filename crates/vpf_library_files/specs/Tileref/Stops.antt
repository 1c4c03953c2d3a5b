-- What ends the reading of the table of tiles: bounds and findings, in the order in which they are looked at.
use Rattle.std.specs.Prelude.{◌≡◌, ℕ, ◌≤◌, All, List, map, length, Option, None, Some, Result, Ok, Err}
use Rattle.std.specs.Option.{option_map}
use Rattle.vpf_base.specs.Limits.{longest_name}
use Rattle.vpf_table.specs.Grid.{Grid}
use Rattle.vpf_table.specs.declared.limit.Limit.{Limit}
use Rattle.vpf_findings.specs.Findings.{Disagreement, disagreement_of}
use Rattle.vpf_findings.specs.Firsts.{◌or◌}
use Rattle.vpf_library_files.specs.declared.tileref.errors.TilerefError.{TilerefError}
use Rattle.vpf_library_files.specs.declared.tileref.errors.TilerefError.TheVariants as errors
use Rattle.vpf_library_files.specs.Tileref.Bounds.{lengths_bound, rows_bound}
use Rattle.vpf_library_files.specs.Tileref.Numbered.{most_tiles}
use Rattle.vpf_library_files.specs.Tileref.Paths.{path_text}
use Rattle.vpf_library_files.specs.Tileref.Tileref.{paths_of, tileref_finding}

-- the paths of the tiles, each in one text
abbrev pub path_texts : Grid → List (List ℕ)
path_texts grid = map path_text (paths_of grid)

-- a bound that is passed, or a finding
pub data TilerefStop : Type 0 where
  LimitStop : Limit → TilerefStop
  FindingStop : Disagreement → TilerefStop

-- what ends the reading first: too many rows, then a finding, then a path that is too long
unfoldable pub tileref_stop : Grid → Option TilerefStop
tileref_stop grid =
    option_map LimitStop (rows_bound (length grid.rows))
    or option_map FindingStop (tileref_finding grid)
    or option_map LimitStop (lengths_bound (path_texts grid))

-- the table is within the bounds
pub record IsBounded (grid : Grid) : Type 0 where
  pub few : length grid.rows ≤ most_tiles
  pub short : All (λ text. length text ≤ longest_name) (path_texts grid)

-- a call answered Ok where nothing ends it, and else what does first; of want of memory nothing is said
abbrev pub StopsAt : {V : Type 0} → Result V TilerefError → Option TilerefStop → Type 0
StopsAt (Ok v) first = first ≡ None
StopsAt (Err (errors.Limit limit)) first = first ≡ Some (LimitStop limit)
StopsAt (Err (errors.Finding f)) first = first ≡ Some (FindingStop (disagreement_of f))
StopsAt (Err errors.NoMemory) first = Unit {0}
