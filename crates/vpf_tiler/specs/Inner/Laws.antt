-- What is so of the files that tiling comes to.
use Rattle.std.specs.Prelude.{◌≡◌, ◌≤◌, ℕ, IsUtf8, List, Ok, length}
use Rattle.vpf_base.specs.Limits.{most_rows}
use Rattle.vpf_source.specs.declared.file.File.{File}
use Rattle.vpf_table.specs.Canonical.{IsWritable}
use Rattle.vpf_table.specs.Grid.{Grid}
use Rattle.vpf_prims.specs.Reading.{PrimitiveTables, primitives_of}
use Rattle.vpf_prims.specs.Suiting.{HasColumns}
use Rattle.vpf_library_files.specs.Tileref.Stops.{IsBounded}
use Rattle.vpf_library_files.specs.Tileref.Tileref.{IsTileref}
use Rattle.vpf_wing.specs.WellFormed.{IsWellFormed}
use Rattle.vpf_tiling.specs.Plans.{IsTileable}
use Rattle.vpf_primitive_tables.specs.Inner.TileWriting.Writable.{AreWritable, HaveFewRows}
use Rattle.vpf_tiler.specs.Making.{tiled}
use Rattle.vpf_tiler.specs.Tilings.{GoesOnAs, HasCyclesOf, InEachFolder, IsGluedTo, IsHeldInTiles, OfEachCoverage, Tiling, tiling_of}

-- a table as it is read: its rows fit its columns, so that it can be written, and they are few
pub record IsReadable (grid : Grid) : Type 0 where
  pub writable : IsWritable grid
  pub few : length grid.rows ≤ most_rows

-- the tables of an untiled coverage that agrees, as they are read, and a table of tiles within its bounds
pub record AreTilesGiven (T : PrimitiveTables) (tileref : Grid) : Type 0 where
  pub columns : HasColumns T
  pub writable : AreWritable T
  pub few : HaveFewRows T
  pub well_formed : IsWellFormed (primitives_of T)
  pub right : IsTileref tileref
  pub bounded : IsBounded tileref
  pub tiles : IsWritable tileref

-- it is so wherever tiling comes to some files; the name of the coverage is text
abbrev pub OfFilesMade : (Tiling → (cov : List ℕ) → List File → Type 0) → Type 0
OfFilesMade P = (cov : List ℕ) (T : PrimitiveTables) (plan tileref : Grid) (files : List File) → IsUtf8 cov → AreTilesGiven T tileref
    → tiled cov T plan tileref ≡ Ok files → P (tiling_of T plan tileref) cov files

-- the coverage may be tiled by its plan
abbrev pub MadeIsTileable : Type 0
MadeIsTileable = OfFilesMade (λ w cov files. IsTileable w.coverage w.plan w.tiles)

-- each folder that holds exactly the files holds the coverage in tiles
abbrev pub MadeAgrees : Type 0
MadeAgrees = OfFilesMade (λ w cov files. InEachFolder cov files (IsHeldInTiles w cov))

-- whatever coverage it holds goes on as the coverage that was cut
abbrev pub MadeGoesOn : Type 0
MadeGoesOn = OfFilesMade (λ w cov files. OfEachCoverage cov files (GoesOnAs w))

-- it has its boundary cycles
abbrev pub MadeHasCycles : Type 0
MadeHasCycles = OfFilesMade (λ w cov files. OfEachCoverage cov files (HasCyclesOf w))

-- and it is glued to it
abbrev pub MadeIsGlued : Type 0
MadeIsGlued = OfFilesMade (λ w cov files. OfEachCoverage cov files (IsGluedTo w))
