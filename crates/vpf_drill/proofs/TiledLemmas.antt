-- The grid cut into tiles: what is made of it is read as a coverage, and nothing is found in it.
use Rattle.std.proofs.Common.{[], ◌≡◌, ℕ, ◌≤◌, List, ◌∷◌, map, Option, None, Some, refl, sym, ap, ◌∙◌, subst, append-nil, arith}
use Rattle.std.specs.Prelude.{AllPairs, ◌≢◌, ◌++◌}
use Rattle.vpf_source.specs.Files.{Files}
use Rattle.vpf_source.specs.Making.{with_all}
use Rattle.vpf_source.specs.declared.file.File.{File}
use Rattle.vpf_prims.specs.Coverages.{CoverageTables}
use Rattle.vpf_prims.specs.Primitives.{Primitives}
use Rattle.vpf_prims.specs.Reading.{primitives_of}
use Rattle.vpf_library_files.specs.Inner.Tileref.Laws.{StopsDecide}
use Rattle.vpf_library_files.specs.Tileref.Tileref.{IsTileref}
use Rattle.vpf_library_files.specs.Loading.Holding.{bytes_in}
use Rattle.vpf_library_files.specs.Inner.Loading.Laws.{HeldIsRead}
use Rattle.vpf_library_files.specs.Loading.Loading.{LoadedCoverage, Read, most_loaded, within}
use Rattle.vpf_library_files.specs.TableFiles.Adding.{files_made, first_limit_of}
use Rattle.vpf_library_commands.specs.Tables.{library_tables}
use Rattle.vpf_replies.specs.declared.verdict.Verdict.TheVariants.{Done, Refused}
use Rattle.vpf_replies.specs.Answer.{Answer, done}
use Rattle.vpf_library_commands.specs.Names.{NamesDifferWithin}
use Rattle.vpf_features.specs.Finding.{Named}
use Rattle.vpf_library_commands.specs.Reading.{FeaturedCoverage}
use Rattle.vpf_library_commands.specs.Agreeing.{AgreeingIsRead, CheckCounts, IsAgreeing}
use Rattle.vpf_library_commands.specs.declared.checking.CheckRequest.{CheckRequest}
use Rattle.vpf_library_commands.specs.Check.{agrees_text, coverage_finding, found_answer, read_answer, read_finding}
use Rattle.vpf_library_commands.specs.Made.{file_within}
use Rattle.vpf_library_commands.specs.TileTheorem.Tilings.Cutting.{IsCutFrom, cut_files}
use Rattle.vpf_library_commands.specs.Inner.TileTheorem.Tilings.Laws.{CutIsSource, NoneIsLacked, RequestsHaveNames, TilesAreMade, TilingsAreHeld}
use Rattle.vpf_library_commands.specs.TileTheorem.Tilings.Tilings.{HasNames, StandsAlone, made_request, with_rebuilt}
use Rattle.vpf_library_commands.specs.Inner.TileTheorem.Tilings.ReadLaws.{OpenedIsRead}
use Rattle.vpf_library_commands.specs.Inner.TileTheorem.Tilings.SourceLaws.{PartsAreRead as AreRead, parts_read, unfound}
use Rattle.vpf_drill.specs.Inner.TiledSizes.Sizes.{GridIsLoaded, GridPassesNoLimit}
use Rattle.vpf_vectors.specs.Library.{TablesSayGrid, coverage_tables}
use Rattle.vpf_drill.specs.GridCutting.Held.{GridHoldsBytes, OutIsEmpty, grid_held, tileref_grid}
use Rattle.vpf_drill.specs.Inner.GridCutting.Plans.{GridServes, grid_plan}
use Rattle.vpf_drill.specs.GridCutting.Reading.{GridHasTables, GridIsAsked, GridIsReadToCut, GridIsUnfound, GridPartsAreUnfound, grid_parts, grid_request, grid_tile_tables, grid_words}
use Rattle.vpf_drill.specs.Drill.{cut_grid}
use Rattle.vpf_drill.specs.Inner.Laws.{GridIsTiled, GridsAreSources}
use Rattle.vpf_drill.specs.Request.{CanBeAsked}
use Rattle.vpf_library_commands.specs.Inner.TileTheorem.Tilings.MadeLaws.{bytes_within}

-- what is known of the grid, and of tiled libraries
pub record Known : Type 0 where
  pub opened : OpenedIsRead
  pub stops : StopsDecide
  pub reads : HeldIsRead
  pub counts : CheckCounts
  pub again : AgreeingIsRead
  pub says : TablesSayGrid
  pub empty : OutIsEmpty
  pub bytes : GridHoldsBytes
  pub asked : GridIsAsked
  pub read : GridIsReadToCut
  pub tables : GridHasTables
  pub unfound : GridIsUnfound
  pub parts_unfound : GridPartsAreUnfound
  pub serves : GridServes
  pub limits : GridPassesNoLimit
  pub few : GridIsLoaded
  pub names : NamesDifferWithin
  pub requests : RequestsHaveNames
  pub makes : TilesAreMade
  pub lacked : NoneIsLacked
  pub tilings : TilingsAreHeld
  pub only : CutIsSource

-- what was read of the grid
parts_are : Known → (n : ℕ) → CanBeAsked n → AreRead (grid_held n) grid_request.lib grid_request.cov (grid_parts n)
parts_are k n can =
    parts_read k.opened (grid_held n) grid_request.lib grid_request.cov (grid_parts n) (k.bytes n can.most) (k.read n can.even can.least can.most)

-- the grid may be cut
is_cut : Known → (n : ℕ) → CanBeAsked n → IsCutFrom (grid_held n) grid_request (grid_parts n) (grid_tile_tables n)
is_cut k n can =
    let least = can.least in
    record {
      read = k.read n can.even can.least can.most;
      tables = k.tables n;
      agrees = k.parts_unfound n (omega (arith, least)) can.most;
      serves = k.serves n can.even can.least can.most;
      fits = subst (λ (c : Primitives). first_limit_of (library_tables grid_request.cov (coverage_tables n) c (grid_plan n) (tileref_grid n)) ≡ None) (sym (k.says n))
          (k.limits n grid_request.cov (grid_plan n) can.most);
      joins = refl;
      features_fit = refl;
    }

-- the names of the request are text
text : Known → HasNames grid_request
text k = k.requests grid_words grid_request k.asked.0 k.asked.1

-- what is made stands alone
alone : Known → (n : ℕ) → CanBeAsked n → StandsAlone (grid_held n) grid_request.out (cut_files grid_request (grid_parts n) (grid_tile_tables n))
alone k n can =
    let files : List File = files_made (library_tables grid_request.cov (coverage_tables n) (primitives_of (coverage_tables n)) (grid_plan n) (tileref_grid n)) in
    let few : bytes_in files ≤ most_loaded =
    subst (λ (c : Primitives). bytes_in (files_made (library_tables grid_request.cov (coverage_tables n) c (grid_plan n) (tileref_grid n))) ≤ most_loaded) (sym (k.says n))
    (k.few n grid_request.cov (grid_plan n) can.most) in
    let alone : files ≡ files ++ [] = sym (append-nil files) in
    let right : IsTileref (tileref_grid n) = ((k.stops (tileref_grid n)).0 (parts_are k n can).goes_on).0 in
    record {
      empty = k.empty n;
      apart = subst (λ (own : List File). AllPairs (λ (a b : File). a.name ≢ b.name) (map (file_within grid_request.out) own)) alone
          (k.names grid_request.out grid_request.cov (coverage_tables n) (primitives_of (coverage_tables n)) (grid_plan n) (tileref_grid n) (text k).cov right);
      few = subst (λ m. m ≤ most_loaded) (sym (bytes_within grid_request.out (files ++ [])))
          (subst (λ (own : List File). bytes_in own ≤ most_loaded) alone few);
    }

-- files can be made in any tree
pub made_some : (files : List File) (held : Files) → (after : Files) × (with_all files (Some held) ≡ Some after)
made_some [] held = (held, refl)
made_some (file ∷ files) held = made_some files _

-- where a coverage is found to agree, nothing is found in it
none_found : (c : CoverageTables) (first : Option Named) → found_answer c first ≡ done (agrees_text c) → first ≡ None
none_found c None h = refl
none_found c (Some (name, d)) h = absurd (let e : Refused ≡ Done = ap (λ (a : Answer). a.verdict) h in cc)

agreeing_unfound : Known → (held : Files) (request : CheckRequest) (read : FeaturedCoverage) → IsAgreeing held request read
    → coverage_finding read.coverage.coverage ≡ None
agreeing_unfound k held request read agrees =
    (unfound (within request.lib request.cov) read (none_found read.coverage.coverage (read_finding request read)
    (sym (ap (λ (r : Read FeaturedCoverage). read_answer request r.0) (k.again held request read agrees)) ∙ k.counts held request read agrees))).coverage

pub grid_is_tiled : Known → GridIsTiled
grid_is_tiled k n can =
    let cut = is_cut k n can in
    let own : List File = cut_files grid_request (grid_parts n) (grid_tile_tables n) in
    let same : cut_grid n ≡ own = ap (λ (a : Answer). a.made) (k.makes (grid_held n) grid_request (grid_parts n) (grid_tile_tables n) cut) in
    let some = made_some own (grid_held n) in
    let bytes = k.bytes n can.most in
    let lacks = k.lacked (grid_held n) some.0 grid_request (grid_parts n) (grid_tile_tables n) bytes (text k) cut (alone k n can) some.1 refl in
    let tiled = k.tilings (grid_held n) some.0 grid_request (grid_parts n) (grid_tile_tables n) bytes (text k) cut (alone k n can) some.1 lacks refl in
    let read = k.reads some.0 grid_request.out grid_request.cov tiled.loaded tiled.agrees.held in
    record {
      source = (grid_parts n).coverage;
      source_read = ap (λ (r : Read LoadedCoverage). r.0) (parts_are k n can).coverage.read;
      source_agrees = (let least = can.least in k.unfound n (omega (arith, least)) can.most);
      after = some.0;
      made = ap (λ (files : List File). with_all files (Some (grid_held n))) same ∙ some.1;
      tiled = tiled.loaded;
      tiled_read = ap (λ (r : Read LoadedCoverage). r.0) read;
      tiled_agrees = agreeing_unfound k some.0 (made_request grid_request) (with_rebuilt tiled.loaded (grid_parts n).schema) tiled.agrees;
      rows_agree = tiled.agrees.rows;
    }

pub grids_are_sources : Known → GridsAreSources
grids_are_sources k n can =
    let cut = is_cut k n can in
    let own : List File = cut_files grid_request (grid_parts n) (grid_tile_tables n) in
    let some = made_some own (grid_held n) in
    let bytes = k.bytes n can.most in
    record {
      source = k.only (grid_held n) grid_request (grid_parts n) (grid_tile_tables n) bytes (text k) cut;
      alone = alone k n can;
      after = some.0;
      made = some.1;
      lacks = (k.lacked (grid_held n) some.0 grid_request (grid_parts n) (grid_tile_tables n) bytes (text k) cut (alone k n can) some.1 refl).indexes;
    }
