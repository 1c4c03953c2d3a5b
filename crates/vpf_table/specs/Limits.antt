-- Bounds, and the codes that tell that one is passed.
use Rattle.std.specs.Prelude.{ℕ, List, ◌++◌, Option, Some, None, codes}
use Rattle.std.specs.Fmt.{decimal}
use Rattle.vpf_triplet.specs.declared.places.Code.{Code}
use Rattle.vpf_triplet.specs.declared.places.Code.TheVariants.{LimitHeader, LimitColumns, LimitName, LimitRows}
use Rattle.vpf_table.specs.declared.limit.Bound.{Bound}
use Rattle.vpf_table.specs.declared.limit.Bound.TheVariants as bounds
use Rattle.vpf_table.specs.declared.limit.Limit.{Limit}

-- the word of a bound, as limits print it
abbrev pub bound_text : Bound → List ℕ
bound_text bounds.File = codes "file"
bound_text bounds.Loaded = codes "loaded"
bound_text bounds.Header = codes "header"
bound_text bounds.Columns = codes "columns"
bound_text bounds.Name = codes "name"
bound_text bounds.Rows = codes "rows"
bound_text bounds.Tiles = codes "tiles"

-- the word of the bound, and the number that passed it
abbrev pub passed_text : Limit → List ℕ
passed_text limit = bound_text limit.what ++ (codes " " ++ decimal limit.found)

-- the bound that a code tells to be passed, with the number that passed it
abbrev pub limit_of : Code → Option Limit
limit_of (LimitHeader found) = Some record { what = bounds.Header; found = found }
limit_of (LimitColumns found) = Some record { what = bounds.Columns; found = found }
limit_of (LimitName found) = Some record { what = bounds.Name; found = found }
limit_of (LimitRows found) = Some record { what = bounds.Rows; found = found }
limit_of code = None
