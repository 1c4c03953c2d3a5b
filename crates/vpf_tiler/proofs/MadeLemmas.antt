-- The files of a tiled library in a folder of their own: the folder holds the coverage in tiles.
use Rattle.std.proofs.Common.{◌≡◌, ℕ, ◌<◌, ◌≤◌, ◌^◌, List, length, Option, None, Some, Result, Ok, Err, refl, sym, ap, ◌∙◌, subst, arith}
use Rattle.std.specs.Prelude.{IsUtf8}
use Rattle.std.proofs.lemmas.List.{length-map}
use Rattle.vpf_base.specs.Limits.{most_rows}
use Rattle.vpf_source.specs.Files.{Files}
use Rattle.vpf_source.specs.declared.file.File.{File}
use Rattle.vpf_table.specs.declared.limit.Limit.{Limit as Passed}
use Rattle.vpf_table.specs.Grid.{Grid}
use Rattle.vpf_prims.specs.Libraries.{library_of}
use Rattle.vpf_prims.specs.Primitives.{Library}
use Rattle.vpf_prims.specs.Reading.{PrimitiveTables, edge_in_row, primitives_of}
use Rattle.vpf_library_files.specs.Tileref.Numbered.{most_tiles}
use Rattle.vpf_library_files.specs.Tileref.Stops.{path_texts}
use Rattle.vpf_library_files.specs.Loading.Holding.{HoldsCoverage, bytes_in}
use Rattle.vpf_library_files.specs.Inner.Loading.Laws.{HeldIsRead}
use Rattle.vpf_library_files.specs.Loading.Loading.{LoadedCoverage, Read, most_loaded, read_coverage}
use Rattle.vpf_tiling.specs.Plans.{IsTileable}
use Rattle.vpf_tiling.specs.Tiles.{tiled_library}
use Rattle.vpf_tiling.specs.declared.tileable.refusals.Refusal.{Refusal}
use Rattle.vpf_tiling.specs.Inner.Tileable.Laws.{RefusalsDecide}
use Rattle.vpf_cross.specs.Agreeing.{LibraryAgrees}
use Rattle.vpf_tiling_laws.specs.Inner.Tiled.Laws.{FollowingIsNext, ListingIsNamed, MapIsNamed, TiledAgrees}
use Rattle.vpf_tiling_laws.specs.Inner.Gluing.Gluing.{GluingGivesRenumbered}
use Rattle.vpf_primitive_tables.specs.Inner.TileReading.Laws.{CutsAreRead, CutsHaveColumns}
use Rattle.vpf_primitive_tables.specs.Inner.TileWriting.Laws.{TilerefIsRead, TilerefIsWritable, TilesAreWritable}
use Rattle.vpf_tiler.specs.declared.errors.TileError.{TileError}
use Rattle.vpf_library_files.specs.TableFiles.Adding.{NamedTable, files_made, first_limit_of, made_of_tables, unless_limited}
use Rattle.vpf_feature_writing.specs.Making.{Made}
use Rattle.vpf_tiler.specs.TileFiles.Tables.{all_tile_tables, library_tables, tileref_table}
use Rattle.vpf_tiler.specs.Inner.TiledFiles.Folders.{CanBeMade, HoldsExactly}
use Rattle.vpf_tiler.specs.Inner.TiledFiles.Laws.{HoldsCut, MadeIsHeld}
use Rattle.vpf_tiler.specs.CutBy.{names_of_faces, plan_refusal}
use Rattle.vpf_tiler.specs.Inner.Laws.{AreTilesGiven, MadeAgrees, MadeGoesOn, MadeHasCycles, MadeIsGlued, MadeIsTileable, OfFilesMade}
use Rattle.vpf_tiler.specs.Making.{made_result, planned_tables, tiled, unless_refused}
use Rattle.vpf_tiler.specs.Tilings.{AreInFolder, GoesOnAs, HasCyclesOf, IsGluedTo, IsHeldInTiles, OfEachCoverage, Tiling, tiling_of}
use Rattle.vpf_tiler.proofs.ReadableLemmas.{are_apart, are_filled}
use Rattle.vpf_tiler.proofs.WrittenLemmas.{all_written, first_and_others}

-- what is known of coverages, their tables, and their tilings
pub record Known : Type 0 where
  pub refusals : RefusalsDecide
  pub held : HeldIsRead
  pub read : CutsAreRead
  pub columns : CutsHaveColumns
  pub tiles : TilesAreWritable
  pub tileref : TilerefIsWritable
  pub tileref_read : TilerefIsRead
  pub made : MadeIsHeld
  pub agree : TiledAgrees
  pub follows : FollowingIsNext
  pub named : MapIsNamed
  pub listing : ListingIsNamed
  pub glued : GluingGivesRenumbered

-- ---- the files that tiling comes to

-- nothing speaks against the plan, no table passes a bound, and these are the files of the tables
pub record AreMade (w : Tiling) (cov : List ℕ) (T : PrimitiveTables) (plan tileref : Grid) (files : List File) : Type 0 where
  pub serves : plan_refusal T plan (length tileref.rows) ≡ None
  pub fits : first_limit_of (library_tables cov T w.coverage w.plan tileref) ≡ None
  pub are : files_made (library_tables cov T w.coverage w.plan tileref) ≡ files

-- what is answered as made is made
pub results_passed : (made : Made) (files : List File) → made_result made ≡ Ok files → made ≡ Ok files
results_passed (Ok made) files e = cc
results_passed (Err error) files e = absurd cc

limits_passed : (tables : List NamedTable) (limit : Option (List ℕ × Passed)) (files : List File) → unless_limited tables limit ≡ Ok files
    → (limit ≡ None) × (files_made tables ≡ files)
limits_passed tables None files e = (refl, cc)
limits_passed tables (Some limit) files e = absurd cc

pub causes_passed : (cause : Option Refusal) (made : Result (List File) TileError) (files : List File) → unless_refused cause made ≡ Ok files
    → (cause ≡ None) × (made ≡ Ok files)
causes_passed None made files e = (refl, e)
causes_passed (Some cause) made files e = absurd cc

pub are_made : (cov : List ℕ) (T : PrimitiveTables) (plan tileref : Grid) (files : List File) → tiled cov T plan tileref ≡ Ok files
    → AreMade (tiling_of T plan tileref) cov T plan tileref files
are_made cov T plan tileref files e =
    let tables : List NamedTable = planned_tables cov T plan tileref in
    let causes = causes_passed (plan_refusal T plan (length tileref.rows)) (made_result (made_of_tables tables)) files e in
    let limits = limits_passed tables (first_limit_of tables) files (results_passed (made_of_tables tables) files causes.1) in
    record { serves = causes.0; fits = limits.0; are = limits.1 }

-- ---- the coverage may be tiled, and its tables written

edges_few : (T : PrimitiveTables) (tileref : Grid) → AreTilesGiven T tileref → length (primitives_of T).edges < 2 ^ 24
edges_few T tileref given =
    let same : length (primitives_of T).edges ≡ length T.edg.rows = length-map T.edg.rows (edge_in_row T.edg.head.columns) in
    let most : most_rows ≡ 16777215 = refl in
    let low : length T.edg.rows ≤ most_rows = given.few.edg in
    omega arith

may_be : Known → (T : PrimitiveTables) (plan tileref : Grid) → AreTilesGiven T tileref → plan_refusal T plan (length tileref.rows) ≡ None
    → IsTileable (primitives_of T) (tiling_of T plan tileref).plan (length tileref.rows)
may_be k T plan tileref given serves =
    let few : length (primitives_of T).edges < 2 ^ 24 = edges_few T tileref given in
    let may = (k.refusals (primitives_of T) (names_of_faces T plan) (length tileref.rows) few given.right.some).0 serves in
    record { few = few; well_formed = given.well_formed; plans = may.0; places = may.1 }

tiles_few : (T : PrimitiveTables) (tileref : Grid) → AreTilesGiven T tileref → length tileref.rows < 2 ^ 31
tiles_few T tileref given =
    let most : most_tiles ≡ 65535 = refl in
    let low : length tileref.rows ≤ most_tiles = given.bounded.few in
    omega arith

can_be_made : Known → (cov : List ℕ) (T : PrimitiveTables) (plan tileref : Grid) (files : List File) → AreTilesGiven T tileref
    → AreMade (tiling_of T plan tileref) cov T plan tileref files → bytes_in files ≤ most_loaded → CanBeMade cov T (tiling_of T plan tileref).plan tileref
can_be_made k cov T plan tileref files given made few =
    let w : Tiling = tiling_of T plan tileref in
    let under : w.tiles < 2 ^ 31 = tiles_few T tileref given in
    let may = may_be k T plan tileref given made.serves in
    let limits = first_and_others (tileref_table tileref) (all_tile_tables cov (path_texts tileref) T w.coverage w.plan w.tiles) made.fits in
    let back = k.tileref_read tileref given.right in
    record {
      right = back.0;
      paths = back.1;
      bounded = given.bounded;
      writable = (
        k.tileref tileref given.right given.tiles under,
        all_written cov (path_texts tileref) T w.plan w.tiles
            (λ t one last rows. k.tiles T w.plan w.tiles t given.columns given.writable given.few may under one last rows) limits.1,
      );
      fits = made.fits;
      few = subst (λ (fs : List File). bytes_in fs ≤ most_loaded) (sym made.are) few;
    }

-- ---- what a folder holds

in_tiles : Known → (cov : List ℕ) (T : PrimitiveTables) (plan tileref : Grid) (files : List File) (held : Files) (folder : List ℕ) → IsUtf8 cov → AreTilesGiven T tileref
    → AreMade (tiling_of T plan tileref) cov T plan tileref files → AreInFolder held folder cov files → IsHeldInTiles (tiling_of T plan tileref) cov held folder
in_tiles k cov T plan tileref files held folder text given made there =
    let w : Tiling = tiling_of T plan tileref in
    let may = may_be k T plan tileref given made.serves in
    let exactly = subst (λ (fs : List File). HoldsExactly held folder fs) (sym made.are) there.exactly in
    let cut : HoldsCut held folder cov T w.plan w.tiles =
    k.made held folder cov T w.plan tileref there.folder_text text there.named (can_be_made k cov T plan tileref files given made there.few) exactly in
    let says : library_of cut.loaded.coverage ≡ tiled_library w.coverage w.plan w.tiles =
    k.read T w.plan w.tiles cut.loaded.coverage given.columns (are_filled T given.writable) given.well_formed cut.cut in
    record {
      loaded = cut.loaded;
      holds = cut.holds;
      columns = k.columns T w.plan w.tiles cut.loaded.coverage given.columns (are_apart T given.writable) cut.cut;
      agrees = subst LibraryAgrees (sym says) (k.agree w.coverage w.plan w.tiles may);
      says = says;
    }

-- the coverage that was read, or another one
value_or : LoadedCoverage → Read LoadedCoverage → LoadedCoverage
value_or d (Ok c, n) = c
value_or d (Err stop, n) = d

same_read : (x c : LoadedCoverage) (k n : ℕ) (r : Read LoadedCoverage) → r ≡ (Ok x, k) → r ≡ (Ok c, n) → x ≡ c
unfolding value_or
same_read x c k n r a b = ap (value_or c) (sym a ∙ b)

-- a folder holds one coverage of a name
pub one_held : HeldIsRead → (held : Files) (lib cov : List ℕ) (x c : LoadedCoverage) → HoldsCoverage held lib cov x → HoldsCoverage held lib cov c → x ≡ c
one_held read held lib cov x c a b =
    same_read x c (bytes_in x.files) (bytes_in c.files) (read_coverage held lib cov 0) (read held lib cov x a) (read held lib cov c b)

-- what is so of the tiled library is so of that of whatever coverage the folder holds
of_each : Known → (P : Tiling → Library → Type 0)
    → ((w : Tiling) → IsTileable w.coverage w.plan w.tiles → P w (tiled_library w.coverage w.plan w.tiles)) → OfFilesMade (λ w cov files. OfEachCoverage cov files (P w))
of_each k P so cov T plan tileref files text given made held folder there loaded holds =
    let w : Tiling = tiling_of T plan tileref in
    let are = are_made cov T plan tileref files made in
    let own : IsHeldInTiles w cov held folder = in_tiles k cov T plan tileref files held folder text given are there in
    let same : own.loaded ≡ loaded = one_held k.held held folder cov own.loaded loaded own.holds holds in
    let says : tiled_library w.coverage w.plan w.tiles ≡ library_of loaded.coverage =
    sym own.says ∙ ap (λ (c : LoadedCoverage). library_of c.coverage) same in
    subst (P w) says (so w (may_be k T plan tileref given are.serves))

-- ---- the laws

pub made_is_tileable : Known → MadeIsTileable
made_is_tileable k cov T plan tileref files text given made = may_be k T plan tileref given (are_made cov T plan tileref files made).serves

pub made_agrees : Known → MadeAgrees
made_agrees k cov T plan tileref files text given made held folder there =
    in_tiles k cov T plan tileref files held folder text given (are_made cov T plan tileref files made) there

pub made_goes_on : Known → MadeGoesOn
made_goes_on k = of_each k GoesOnAs (λ w may. record {
  follows = k.follows w.coverage w.plan w.tiles may;
  named = k.named w.coverage w.plan w.tiles may;
})

pub made_has_cycles : Known → MadeHasCycles
made_has_cycles k = of_each k HasCyclesOf (λ w may. k.listing w.coverage w.plan w.tiles may)

pub made_is_glued : Known → MadeIsGlued
made_is_glued k = of_each k IsGluedTo (λ w may. let both = k.glued w.coverage w.plan w.tiles may in record { rows = both.0; plan = both.1 })
