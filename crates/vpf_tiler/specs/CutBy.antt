-- A coverage that is cut by the plan that a table names, unless there is a cause against it.
use Rattle.std.specs.Prelude.{◌≡◌, ℕ, ℤ, List, length, Option, None, Some, Result, Ok, Err}
use Rattle.vpf_table.specs.Grid.{Grid}
use Rattle.vpf_prims.specs.Reading.{PrimitiveTables, primitives_of}
use Rattle.vpf_tiling.specs.Plan.Named.{tiles_named}
use Rattle.vpf_tiling.specs.declared.tileable.refusals.Refusal.{Refusal}
use Rattle.vpf_tiling.specs.Tileable.Planning.{plan_of}
use Rattle.vpf_tiling.specs.Tileable.Refusals.{first_refusal}
use Rattle.vpf_cutting.specs.Inner.Cuts.{Cutting, plan_by}
use Rattle.vpf_tiler.specs.declared.errors.TileError.{TileError}
use Rattle.vpf_tiler.specs.declared.errors.TileError.TheVariants as errors

-- what a plan names for the faces of a coverage
abbrev pub names_of_faces : PrimitiveTables → Grid → List (Option ℤ)
names_of_faces tables plan = tiles_named plan (length (primitives_of tables).faces)

-- the first cause against cutting a coverage by a plan into so many tiles
abbrev pub plan_refusal : PrimitiveTables → Grid → ℕ → Option Refusal
plan_refusal tables plan tiles = first_refusal (primitives_of tables) (names_of_faces tables plan) tiles

-- it is the coverage of these tables, cut by that plan into so many tiles
pub record IsCutBy (tables : PrimitiveTables) (grid : Grid) (count : ℕ) (cut : Cutting) : Type 0 where
  pub source : cut.source ≡ primitives_of tables
  pub plan : plan_by cut.plan ≡ plan_of (names_of_faces tables grid)
  pub tiles : cut.tiles ≡ count

-- this is why a coverage isn't cut: the first cause, or want of memory, of which nothing is said; no row joins by numbers, and no limit is passed
abbrev pub IsCause : Option Refusal → TileError → Type 0
IsCause first (errors.Refused refusal) = first ≡ Some refusal
IsCause first (errors.KeyInTable row) = ⊥
IsCause first (errors.Limit name limit) = ⊥
IsCause first errors.NoMemory = Unit {0}

-- a call answered Ok where there is no cause, and else why
abbrev pub RefusesCut : {V : Type 0} → Option Refusal → Result V TileError → Type 0
RefusesCut first (Ok v) = first ≡ None
RefusesCut first (Err error) = IsCause first error
