use Rattle.vpf_cutting.specs.Inner.Cuts.{plan_by}
use Rattle.vpf_library_files.specs.TableFiles.Adding.{made_of_tables}
use Rattle.vpf_tiler.specs.TileFiles.Tables.{library_tables}
use Rattle.vpf_tiler.proofs.tiling.featured_files_of_cut.Goals as goal

pub returns : goal.returns
returns c =
    c.with_features.ensures
    (made_of_tables (library_tables c.args.cov.now c.args.source.now.tables c.args.cut.now.source (plan_by c.args.cut.now.plan) c.args.tileref.now))
    c.files_of_cut-tables.ensures
