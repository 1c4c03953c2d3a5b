-- The tables of a coverage that the code has opened.
use Rattle.std.specs.Prelude.{ℕ, List, [], ◌∷◌, Option, Some, None, is_some}
use Rattle.std.specs.Option.{option_map}
use Rattle.vpf_prims.specs.declared.views.PrimitiveViews.{PrimitiveViews}
use Rattle.vpf_prims.specs.Coverages.{CoverageTables}
use Rattle.vpf_prims.specs.Reading.{PrimitiveTables}
use Rattle.vpf_prims.specs.Tables.{TileTables}
use Rattle.vpf_prims.specs.Inner.Views.{tables_in_view}
use Rattle.vpf_coverage.specs.declared.opening.opening.OpenCoverage.{OpenCoverage}
use Rattle.vpf_coverage.specs.declared.opening.opening.Paths.{Paths}
use Rattle.vpf_coverage.specs.declared.opening.opening.Paths.TheVariants as known

-- the tables of a folder that may be empty
abbrev pub tables_in_views : Option PrimitiveViews → Option PrimitiveTables
tables_in_views views = option_map tables_in_view views

-- the tables of a tile, which may be empty, where the first of its files stands
abbrev pub placed_view : ℕ → Option PrimitiveViews → Option TileTables
placed_view first views = option_map (λ (v : PrimitiveViews). record { first = first; tables = tables_in_view v }) views

-- the tables of tiles, each where the first of its files stands
abbrev pub placed_views : List ℕ → List (Option PrimitiveViews) → List (Option TileTables)
placed_views [] tiles = []
placed_views (first ∷ firsts) [] = []
placed_views (first ∷ firsts) (tile ∷ tiles) = placed_view first tile ∷ placed_views firsts tiles

-- the paths of tiles, whoever keeps them
abbrev pub names_in : Paths → List (List ℕ)
names_in (known.Read paths) = paths
names_in (known.Kept paths) = paths.now

-- those of a coverage that may have none
abbrev pub names_of : Option Paths → List (List ℕ)
names_of None = []
names_of (Some paths) = names_in paths

-- the coverage that was opened: one without paths of tiles isn't tiled
abbrev pub opened_coverage : OpenCoverage → CoverageTables
opened_coverage o = record { is_tiled = is_some o.paths; paths = names_of o.paths; tiles = placed_views o.firsts.items o.tiles.items }
