-- What some lines find in the edges of a tile.
use Rattle.std.specs.Prelude.{ℕ, ◌+◌, length, Option}
use Rattle.vpf_findings.specs.Findings.{Disagreement}
use Rattle.vpf_findings.specs.Firsts.{first_over}
use Rattle.vpf_prims.specs.Reading.{primitives_of}
use Rattle.vpf_prims.specs.Tables.{TileTables}

-- what some lines find first in the edges of a tile, by their numbers from 1
unfoldable pub over_edges : (ℕ → Option Disagreement) → TileTables → Option Disagreement
over_edges lines T = first_over (λ i. lines (i + 1)) 0 (length (primitives_of T.tables).edges)
