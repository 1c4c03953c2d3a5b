-- A coverage that is cut by a plan against which there is no cause, and what tiling comes to then.
use Rattle.std.proofs.Common.{◌≡◌, ℕ, ℤ, ◌<◌, ◌≤◌, ◌^◌, sym, ap, ◌∙◌, subst, List, length, Option, None, Some, Result}
use Rattle.std.specs.Prelude.{map}
use Rattle.std.specs.List.{range_with_len}
use Rattle.std.proofs.lemmas.List.FromFn.{length-map-range_with_len}
use mathlib.Core.Path.{fun_ext}
use Rattle.vpf_base.specs.Results.{Told}
use Rattle.vpf_source.specs.declared.file.File.{File}
use Rattle.vpf_tiling.specs.declared.tileable.refusals.Refusal.{Refusal}
use Rattle.vpf_table.specs.Grid.{Grid}
use Rattle.vpf_prims.specs.Lists.{kth}
use Rattle.vpf_prims.specs.Primitives.{Primitives}
use Rattle.vpf_prims.specs.Reading.{PrimitiveTables, primitives_of}
use Rattle.vpf_prims.specs.Tables.{TileTables}
use Rattle.vpf_wing.specs.WellFormed.{IsWellFormed}
use Rattle.vpf_tiling.specs.Plans.{HasPlaces, IsPlan}
use Rattle.vpf_tiling.specs.Plan.Named.{named_tile, tiles_named}
use Rattle.vpf_tiling.specs.Inner.Tileable.Laws.{RefusalsDecide}
use Rattle.vpf_tiling.specs.Tileable.Planning.{plan_of}
use Rattle.vpf_tiling.specs.Tileable.Refusals.{first_refusal}
use Rattle.vpf_cutting.specs.Inner.Cuts.{Cutting, IsPlanned, cutting_of, plan_by}
use Rattle.vpf_library_files.specs.TableFiles.Adding.{NamedTable, made_of_tables}
use Rattle.vpf_feature_files.specs.Schemas.{Schema, joins_of}
use Rattle.vpf_feature_writing.specs.Keys.{numbered_row}
use Rattle.vpf_feature_writing.specs.Making.{features_made, made_then}
use Rattle.vpf_tiler.specs.declared.errors.TileError.{TileError}
use Rattle.vpf_tiler.specs.declared.errors.TileError.TheVariants as errors
use Rattle.vpf_tiler.specs.CutBy.{IsCause, IsCutBy, names_of_faces, plan_refusal}
use Rattle.vpf_tiler.specs.Making.{made_result, planned_tables, tile_error_seen, tiled_with_features, unless_keyed, unless_refused}
use Rattle.vpf_tiler.specs.TileFiles.Tables.{library_tables}

-- there is a tile, or none, for each face
pub names_all : (plan : Grid) (faces : ℕ) (named : List (Option ℤ)) → named ≡ tiles_named plan faces → length named ≡ faces
names_all plan faces named is = ap length is ∙ length-map-range_with_len (named_tile plan) 1 faces

-- what is named for so many faces as there are is what the plan names for them
pub names_are : (tables : PrimitiveTables) (plan : Grid) (faces : ℕ) (named : List (Option ℤ)) → named ≡ tiles_named plan faces
    → faces ≡ length (primitives_of tables).faces → named ≡ names_of_faces tables plan
names_are tables plan faces named is count = is ∙ ap (tiles_named plan) count

-- the first cause by it
pub refusal_is : (tables : PrimitiveTables) (plan : Grid) (tiles faces : ℕ) (named : List (Option ℤ)) → named ≡ tiles_named plan faces
    → faces ≡ length (primitives_of tables).faces → first_refusal (primitives_of tables) named tiles ≡ plan_refusal tables plan tiles
refusal_is tables plan tiles faces named is count = ap (λ n. first_refusal (primitives_of tables) n tiles) (names_are tables plan faces named is count)

-- where there is none, the coverage may be tiled
pub planned : RefusalsDecide → (T : TileTables) (tiles faces : ℕ) (named : List (Option ℤ)) (items : List ℕ)
    → IsWellFormed (primitives_of T.tables) → length (primitives_of T.tables).edges < 2 ^ 24 → 1 ≤ tiles → tiles < 2 ^ 31
    → first_refusal (primitives_of T.tables) named tiles ≡ None → faces ≡ length (primitives_of T.tables).faces
    → items ≡ map (plan_of named) (range_with_len 1 faces) → ((f : ℕ) → kth items f 0 ≡ plan_of named f) → IsPlanned (cutting_of T items tiles)
planned decide T tiles faces named items well few some small none count are each =
    let c : Primitives = primitives_of T.tables in
    let same : plan_by items ≡ plan_of named = fun_ext each in
    let both : IsPlan c (plan_of named) tiles × HasPlaces c = (decide c named tiles few some).0 none in
    record {
      tileable = record { few = few; well_formed = well; plans = subst (λ (p : ℕ → ℕ). IsPlan c p tiles) (sym same) both.0; places = both.1 };
      faces = ap length are ∙ length-map-range_with_len (plan_of named) 1 faces ∙ count;
      universe = each 1;
      few = small;
    }

-- it is cut by the plan
pub cut_is : (T : TileTables) (plan : Grid) (tiles faces : ℕ) (named : List (Option ℤ)) (items : List ℕ) (cut : Cutting)
    → cut ≡ cutting_of T items tiles → named ≡ tiles_named plan faces → faces ≡ length (primitives_of T.tables).faces
    → ((f : ℕ) → kth items f 0 ≡ plan_of named f) → IsCutBy T.tables plan tiles cut
cut_is T plan tiles faces named items cut is names count each = record {
  source = ap (λ (k : Cutting). k.source) is;
  plan = ap (λ (k : Cutting). plan_by k.plan) is ∙ fun_ext each ∙ ap plan_of (names_are T.tables plan faces named names count);
  tiles = ap (λ (k : Cutting). k.tiles) is;
}

-- ---- what tiling comes to

-- what is made where nothing speaks against the plan
abbrev planned_made : (cov : List ℕ) → PrimitiveTables → Schema → (plan tileref : Grid) → Result (List File) TileError
planned_made cov tables S plan tileref =
    unless_keyed (numbered_row (joins_of S.fcs)) (made_result (made_then (made_of_tables (planned_tables cov tables plan tileref)) (features_made cov S)))

-- it is by the first cause against the plan, if any
refusal_said : (cov : List ℕ) (tables : PrimitiveTables) (S : Schema) (plan tileref : Grid) (tiles : ℕ) (refusal : Option Refusal) → tiles ≡ length tileref.rows
    → plan_refusal tables plan tiles ≡ refusal → tiled_with_features cov tables S plan tileref ≡ unless_refused refusal (planned_made cov tables S plan tileref)
refusal_said cov tables S plan tileref tiles refusal many is =
    ap (λ (r : Option Refusal). unless_refused r (planned_made cov tables S plan tileref)) (ap (plan_refusal tables plan) (sym many) ∙ is)

-- the first cause against the plan
pub refused_told : (cov : List ℕ) (tables : PrimitiveTables) (S : Schema) (plan tileref : Grid) (tiles : ℕ) (e : TileError) → tiles ≡ length tileref.rows
    → IsCause (plan_refusal tables plan tiles) e → Told (tile_error_seen e) (tiled_with_features cov tables S plan tileref)
refused_told cov tables S plan tileref tiles (errors.Refused refusal) many h = refusal_said cov tables S plan tileref tiles (Some refusal) many h
refused_told cov tables S plan tileref tiles (errors.KeyInTable row) many h = absurd h
refused_told cov tables S plan tileref tiles (errors.Limit name limit) many h = absurd h
refused_told cov tables S plan tileref tiles errors.NoMemory many h = h

-- where there is none, what the tables and the features come to
pub tiled_is : (cov : List ℕ) (tables : PrimitiveTables) (S : Schema) (plan tileref : Grid) (tiles : ℕ) (cut : Cutting) → tiles ≡ length tileref.rows
    → plan_refusal tables plan tiles ≡ None → IsCutBy tables plan tiles cut
    → unless_keyed (numbered_row (joins_of S.fcs))
    (made_result (made_then (made_of_tables (library_tables cov tables cut.source (plan_by cut.plan) tileref)) (features_made cov S)))
    ≡ tiled_with_features cov tables S plan tileref
tiled_is cov tables S plan tileref tiles cut many none by =
    let made : List NamedTable → Result (List File) TileError =
    λ named. unless_keyed (numbered_row (joins_of S.fcs)) (made_result (made_then (made_of_tables named) (features_made cov S))) in
    ap (λ (c : Primitives). made (library_tables cov tables c (plan_by cut.plan) tileref)) by.source
    ∙ ap (λ (p : ℕ → ℕ). made (library_tables cov tables (primitives_of tables) p tileref)) by.plan
    ∙ sym (refusal_said cov tables S plan tileref tiles None many none)

-- the tables of tiles are like those of the coverage, as it is cut
pub making_is : (cov : List ℕ) (forms tables : PrimitiveTables) (made cut : Cutting) (tileref : Grid) → forms ≡ tables → made ≡ cut
    → made_of_tables (library_tables cov forms made.source (plan_by made.plan) tileref)
    ≡ made_of_tables (library_tables cov tables cut.source (plan_by cut.plan) tileref)
making_is cov forms tables made cut tileref same is =
    ap (λ (ts : PrimitiveTables). made_of_tables (library_tables cov ts made.source (plan_by made.plan) tileref)) same
    ∙ ap (λ (k : Cutting). made_of_tables (library_tables cov tables k.source (plan_by k.plan) tileref)) is
