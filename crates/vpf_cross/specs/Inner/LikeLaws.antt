-- Tiles that have the columns of the first carry as many without a role.
use Rattle.std.proofs.Common.{◌-◌, Option, List, map}
use Rattle.std.specs.Option.{option_map}
use Rattle.vpf_prims.specs.Reading.{PrimitiveTables}
use Rattle.vpf_prims.specs.Tables.{TileTables}

abbrev pub tables_of_tiles : List (Option TileTables) → List (Option PrimitiveTables)
tables_of_tiles tiles = map (option_map (λ (T : TileTables). T.tables)) tiles
