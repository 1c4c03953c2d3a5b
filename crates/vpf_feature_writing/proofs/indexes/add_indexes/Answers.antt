use Rattle.std.proofs.Common.{◌∙◌}
use Rattle.vpf_feature_writing.proofs.StepLemmas.{index_more}
use Rattle.vpf_features.specs.Inner.Views.{table_seen}
use Rattle.vpf_feature_writing.proofs.indexes.add_indexes.Goals as goal

pub loop-c-preserved : goal.loop-c-preserved
loop-c-preserved c =
    index_more c.args.folder.now (table_seen c.args.view.now) c.loop-c.c c.deref-index-items.result.now c.index-item.result _
    c.loop-c.files.items c.add_index.new.files.items c.loop-c-test.true c.index-item.is c.in_ok-add_index.ensures
    ∙ c.loop-c.invariant
