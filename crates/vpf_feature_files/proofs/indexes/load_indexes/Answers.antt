use Rattle.std.proofs.Common.{◌∙◌, ◌+◌, ◌≤◌, length, drop, arith}
use Rattle.std.proofs.lemmas.Result.{err_from_is_err_and}
use Rattle.vpf_base.proofs.Results.{no_ok}
use Rattle.vpf_head.specs.Inner.Views.{col}
use Rattle.vpf_library_files.specs.declared.loading.loading.LoadStop.TheVariants as stops
use Rattle.vpf_feature_files.proofs.IndexLemmas.{in_order, indexes_done, indexes_stop, left_with, one_more, stop_in_order}
use Rattle.vpf_feature_files.proofs.indexes.load_indexes.Goals as goal

pub returns-in_err-index-clause-reads : goal.returns-in_err-index-clause-reads
returns-in_err-index-clause-reads g c =
    let p = err_from_is_err_and c.from_residual.result c.from_residual.ensures.1 in
    let i = c.loop-c.invariant in
    let told = g.T.Tree.files c.args.tree.now in
    let now = g.T.Tree.files c.loop-c.tree in
    let folder = c.args.folder.now in
    let order = c.args.header.now.order in
    let columns = c.args.header.now.columns in
    let column = col c.at.result.now in
    let n0 = c.args.loaded.now in
    let n = c.loop-c.loaded in
    let m = c.load_index.new.loaded in
    let files = c.loop-c.files.items in
    let stop = c.in_err-index.field-0.0 in
    let left = left_with told folder order columns c.loop-c.c n0 n column files c.at.ensures i.read in
    rw (p.1, p.2) (indexes_stop told now folder order columns (drop (c.loop-c.c + 1) columns) column n0 n m files stop i.same left
    (stop_in_order now folder order c.order.result column n m stop c.order.ensures c.in_err-index.ensures.reads))

pub loop-c-preserved : goal.loop-c-preserved
loop-c-preserved g c =
    let i = c.loop-c.invariant in
    let told = g.T.Tree.files c.args.tree.now in
    let now = g.T.Tree.files c.loop-c.tree in
    let folder = c.args.folder.now in
    let order = c.args.header.now.order in
    let columns = c.args.header.now.columns in
    let column = col c.at.result.now in
    let n0 = c.args.loaded.now in
    let n = c.loop-c.loaded in
    let m = c.load_index.new.loaded in
    let files = c.loop-c.files.items in
    let file = c.in_ok-index.index in
    let left = left_with told folder order columns c.loop-c.c n0 n column files c.at.ensures i.read in
    let comes = in_order now folder order c.order.result column n m file c.order.ensures c.in_ok-index.ensures.reads in
    record {
      read = rw c.in_ok-keep.ensures (one_more told now folder order columns (drop (c.loop-c.c + 1) columns) column n0 n m files file i.same left comes);
      rising = omega (arith, i.rising, c.load_index.ensures.only.rising);
      most = c.load_index.ensures.only.most;
      stood = c.in_ok-index.ensures.only.stood (λ e. no_ok c.in_ok-index.index stops.Fault e) ∙ i.stood;
      same = c.load_index.ensures.only.files ∙ i.same;
    }

pub returns-clause-reads : goal.returns-clause-reads
returns-clause-reads g c =
    let past : length c.args.header.now.columns ≤ c.loop-c.c = omega (arith, c.loop-c-test.false, c.len-c-end.ensures.value) in
    indexes_done (g.T.Tree.files c.args.tree.now) c.args.folder.now c.args.header.now.order c.args.header.now.columns c.loop-c.c c.args.loaded.now c.loop-c.loaded
    c.loop-c.files.items past c.loop-c.invariant.read
