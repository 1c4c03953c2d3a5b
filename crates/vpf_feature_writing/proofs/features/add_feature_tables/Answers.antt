use Rattle.std.proofs.Common.{◌∙◌}
use Rattle.std.proofs.lemmas.Result.{err_from_is_err_and}
use Rattle.vpf_feature_writing.proofs.StepLemmas.{table_fails, table_more}
use Rattle.vpf_feature_writing.proofs.features.add_feature_tables.Goals as goal

pub returns-in_err-add_feature_table : goal.returns-in_err-add_feature_table
returns-in_err-add_feature_table c =
    let p = err_from_is_err_and c.from_residual.result c.from_residual.ensures.1 in
    rw (p.1, p.2) (table_fails c.args.folder.now c.loop-view.view-index c.args.views.now c.view-item.result _ c.args.files.now.items c.loop-view.files.items
    c.in_err-add_feature_table.field-0.0 c.loop-view-test.true c.view-item.is c.loop-view.invariant c.in_err-add_feature_table.ensures)

pub loop-view-preserved : goal.loop-view-preserved
loop-view-preserved c =
    table_more c.args.folder.now c.loop-view.view-index c.args.views.now c.view-item.result _ c.loop-view.files.items c.add_feature_table.new.files.items
    c.loop-view-test.true c.view-item.is c.in_ok-add_feature_table.ensures
    ∙ c.loop-view.invariant
