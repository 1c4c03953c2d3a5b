-- How many tiles there may be.
use Rattle.std.specs.Prelude.{ℕ}
use Rattle.vpf_base.specs.declared.limits.TheConstants.{MOST_TILES}

-- the most tiles of a library
abbrev pub most_tiles : ℕ
most_tiles = MOST_TILES
