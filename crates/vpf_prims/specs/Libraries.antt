-- A coverage by what the tables of its tiles say, and what a rule finds in its tiles.
use Rattle.std.specs.Prelude.{◌≡◌, ℕ, ◌+◌, ◌<◌, ◌^◌, true, false, Option, Some, None}
use Rattle.std.specs.Option.{option_map}
use Rattle.vpf_table.specs.Findings.{Disagreement}
use Rattle.vpf_table.specs.Firsts.{first_over}
use Rattle.vpf_prims.specs.Primitives.{Primitives, Library, edge_count, has_tables}
use Rattle.vpf_prims.specs.Reading.{primitives_of}
use Rattle.vpf_prims.specs.Tables.{TileTables}
use Rattle.vpf_prims.specs.Coverages.{CoverageTables, tile_at, last_tile}

-- what the tables of a tile say, where it has tables
abbrev pub primitives_in : Option TileTables → Option Primitives
primitives_in T = option_map (λ (T : TileTables). primitives_of T.tables) T

-- what the tables of a coverage say, tile by tile
abbrev pub library_of : CoverageTables → Library
library_of c = record { is_tiled = c.is_tiled; last = last_tile c; tile = λ t. primitives_in (tile_at c t) }

-- what a rule finds in a tile, where it has tables
abbrev pub in_tile : (TileTables → Option Disagreement) → Option TileTables → Option Disagreement
in_tile rule None = None
in_tile rule (Some T) = rule T

-- what a rule finds first in the tiles of a coverage, by their numbers
unfoldable pub in_tiles : (ℕ → TileTables → Option Disagreement) → CoverageTables → Option Disagreement
in_tiles rule c = first_over (λ t. in_tile (rule t) (tile_at c t)) 0 (last_tile c + 1)

-- The tiles are that of an untiled coverage, or they are numbered from 1 to the last. A table has few rows.
pub record IsLibrary (L : Library) : Type 0 where
  pub few : (t : ℕ) → edge_count L t < 2 ^ 24
  pub none_after : (t : ℕ) → L.last < t → L.tile t ≡ None
  pub from_one : L.is_tiled ≡ true → L.tile 0 ≡ None
  pub one : L.is_tiled ≡ false → L.last ≡ 0
  pub some : ℕ
  pub has_some : has_tables L some ≡ true
