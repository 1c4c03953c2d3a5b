use Rattle.std.proofs.Common.{◌≡◌, ◌∙◌, length, arith}
use Rattle.vpf_features.specs.Inner.Views.{table_seen}
use Rattle.vpf_features.proofs.FileLemmas.{one_more, table_here, tables_whole}
use Rattle.vpf_features.proofs.opening.open_tables.Goals as goal

pub open_table-requires : goal.open_table-requires
open_table-requires c =
    let r = table_here c.requires.0 c.loop-table.table-index c.requires.1.0 c.args.files.now c.table-item.result _ c.requires.1.1 c.loop-table-test.true c.table-item.is in
    (c.requires.0, (r.0, r.1))

pub loop-table-preserved : goal.loop-table-preserved
loop-table-preserved c = λ folder tables h.
    let r = table_here folder c.loop-table.table-index tables c.args.files.now c.table-item.result _ h c.loop-table-test.true c.table-item.is in
    one_more table_seen c.loop-table.table-index c.loop-table.views.items c.push.new.self.items _ tables r.0 c.in_ok-push.ensures.items
    (c.loop-table.invariant folder tables h) (c.in_ok-open_table.ensures folder r.0 r.1) r.2

pub returns : goal.returns
returns c = λ folder tables h.
    let end : c.loop-table.table-index ≡ length c.args.files.now = omega (arith, c.loop-table-test.false, c.loop-table.auto.table-index-end) in
    c.loop-table.invariant folder tables h ∙ tables_whole folder c.loop-table.table-index tables c.args.files.now h end
