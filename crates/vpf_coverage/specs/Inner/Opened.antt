-- Tables that were opened, with the columns that were found in them, tile by tile.
use Rattle.std.specs.Prelude.{◌≡◌, ◌+◌, ◌<◌, ◌^◌, All, List, [], ◌∷◌, length, Option, Some, None}
use Rattle.vpf_prims.specs.declared.views.PrimitiveViews.{PrimitiveViews}
use Rattle.vpf_prims.specs.declared.views.TileColumns.{TileColumns}
use Rattle.vpf_prims.specs.Coverages.{CoverageTables}
use Rattle.vpf_prims.specs.Libraries.{IsLibrary, library_of}
use Rattle.vpf_prims.specs.Inner.Owning.{NamesItsOwn}
use Rattle.vpf_prims.specs.Reading.{primitives_of}
use Rattle.vpf_prims.specs.Inner.Views.{AreColumnsOf, tables_in_view}
use Rattle.vpf_coverage.specs.declared.opening.opening.OpenCoverage.{OpenCoverage}

-- these are the columns of a tile's tables, whose rows name what is there
pub record AreRight (views : PrimitiveViews) (columns : TileColumns) : Type 0 where
  pub columns_are : AreColumnsOf (tables_in_view views) columns
  pub owns : NamesItsOwn (primitives_of (tables_in_view views))

-- the same of a tile that may be empty
abbrev pub AreRightIn : Option PrimitiveViews → Option TileColumns → Type 0
AreRightIn None None = Unit {0}
AreRightIn None (Some columns) = ⊥
AreRightIn (Some views) None = ⊥
AreRightIn (Some views) (Some columns) = AreRight views columns

-- of all tiles
abbrev pub AreAllRight : List (Option PrimitiveViews) → List (Option TileColumns) → Type 0
AreAllRight [] [] = Unit {0}
AreAllRight [] (columns ∷ rest) = ⊥
AreAllRight (views ∷ tiles) [] = ⊥
AreAllRight (views ∷ tiles) (columns ∷ rest) = AreRightIn views columns × AreAllRight tiles rest

-- there is a place for each tile, and few files come before it
pub record IsPlaced (o : OpenCoverage) : Type 0 where
  pub alike : length o.firsts.items ≡ length o.tiles.items
  pub few : All (λ first. first < 2 ^ 31) o.firsts.items

-- the tiles of a coverage are those of a library, one more than they have paths, and not too many
pub record HasCountedTiles (c : CoverageTables) : Type 0 where
  pub library : IsLibrary (library_of c)
  pub tiles : length c.tiles ≡ length c.paths + 1
  pub few : length c.tiles < 2 ^ 31
