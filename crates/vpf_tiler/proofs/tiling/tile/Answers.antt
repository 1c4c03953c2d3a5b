use Rattle.std.proofs.Common.{◌≡◌, ◌∙◌, ℕ, List, Vec, Global, sym, subst}
use Rattle.std.specs.Prelude.{IfOk, IsUtf8, Some}
use Rattle.vpf_source.specs.declared.file.File.{File}
use Rattle.vpf_base.specs.Results.{Meets}
use Rattle.vpf_prims.specs.Coverages.{tile_at}
use Rattle.vpf_prims.specs.Tables.{TileTables}
use Rattle.vpf_wing.specs.Inner.DartLaws.{same_some}
use Rattle.vpf_feature_files.specs.Schemas.{Schema}
use Rattle.vpf_tiler.specs.Making.{tile_error_seen, tiled_with_features}
use Rattle.vpf_tiler.specs.Inner.Laws.{AreTilesGiven}
use Rattle.vpf_tiler.specs.Inner.TiledFeatures.Laws.{OfFeaturedFilesMade}
use Rattle.vpf_tiler.specs.Inner.TiledFeatures.Folders.{AreFeaturesGiven, InEachFolderWith, IsHeldWithFeatures, OfEachCoverageWith}
use Rattle.vpf_tiler.specs.Tilings.{GoesOnAs, HasCyclesOf, IsGluedTo, Tiling, tiling_of}
use Rattle.vpf_tiler.proofs.tiled_features.Featured.{answered}
use Rattle.vpf_tiler.proofs.tiling.tile.Goals as goal

-- the tables that are tiled are those of the coverage
same_tables : (c : goal.After-cut_files) (tables : TileTables) → tile_at c.args.checked.now 0 ≡ Some tables → c.source_of-source.result.now ≡ tables
same_tables c tables at = same_some c.source_of-source.result.now tables (sym c.source_of-source.ensures.tile ∙ at)

-- what is so wherever tiling comes to some files with features is so of those that are answered
so_of_answer : (c : goal.After-cut_files) (P : Tiling → Schema → List ℕ → List File → Type 0) → OfFeaturedFilesMade P → (tables : TileTables)
    → tile_at c.args.checked.now 0 ≡ Some tables → AreFeaturesGiven c.args.schema.now
    → IfOk c.cut_files.result
    (λ (files : Vec File Global). P (tiling_of tables.tables c.args.plan.now c.args.tileref.now) c.args.schema.now c.args.cov.now files.items)
so_of_answer c P of tables at features =
    let s = c.source_of-source.ensures in
    let text : IsUtf8 c.args.cov.now = subst IsUtf8 c.as_bytes-text.ensures.value c.as_bytes-text.ensures.utf8 in
    let given : AreTilesGiven c.source_of-source.result.now.tables c.args.tileref.now = record {
      columns = s.columns;
      writable = s.writable;
      few = s.few;
      well_formed = s.well_formed;
      right = c.requires.tileref;
      bounded = c.requires.bounded;
      tiles = c.source_reads.ensures.writable;
    } in
    answered P of c.args.cov.now c.source_of-source.result.now tables c.args.schema.now c.args.plan.now c.args.tileref.now c.cut_files.result
    (same_tables c tables at) text given features c.cut_files.ensures

pub returns-clause-exact : goal.returns-clause-exact
returns-clause-exact c tables at =
    subst (λ (T : TileTables). Meets (λ (files : Vec File Global). files.items) tile_error_seen c.cut_files.result
    (tiled_with_features c.args.cov.now T.tables c.args.schema.now c.args.plan.now c.args.tileref.now)) (same_tables c tables at) c.cut_files.ensures

pub returns-clause-accepted : goal.returns-clause-accepted
returns-clause-accepted c = so_of_answer c (λ w S cov files. InEachFolderWith S cov files (IsHeldWithFeatures w cov S)) c.featured_agrees.ensures.accepted

pub returns-clause-next : goal.returns-clause-next
returns-clause-next c = so_of_answer c (λ w S cov files. OfEachCoverageWith S cov files (GoesOnAs w)) c.featured_agrees.ensures.next

pub returns-clause-cycles : goal.returns-clause-cycles
returns-clause-cycles c = so_of_answer c (λ w S cov files. OfEachCoverageWith S cov files (HasCyclesOf w)) c.featured_agrees.ensures.cycles

pub returns-clause-glued : goal.returns-clause-glued
returns-clause-glued c = so_of_answer c (λ w S cov files. OfEachCoverageWith S cov files (IsGluedTo w)) c.featured_agrees.ensures.glued
