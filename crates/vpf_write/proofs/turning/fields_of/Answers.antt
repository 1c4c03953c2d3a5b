use Rattle.vpf_base.proofs.Lists.{next_item}
use Rattle.vpf_head.specs.Inner.Views.{col}
use Rattle.vpf_write.proofs.Blocks.{field_by, field_pushed}
use Rattle.vpf_write.proofs.turning.fields_of.Goals as goal

pub loop-c-preserved : goal.loop-c-preserved
loop-c-preserved c =
    let cols = c.args.header.now.columns in
    let split = next_item cols c.loop-c.c (col c.at-column.result.now) c.at-column.ensures in
    let field = field_by (col c.at-column.result.now) c.word_size.result c.unwrap_or.result c.cell_width.result c.word_size.ensures c.cell_width.ensures c.unwrap_or.ensures in
    field_pushed cols c.loop-c.c (col c.at-column.result.now) c.loop-c.fields.items c.push.new.self.items _ _ split field c.in_ok-push.ensures.items c.loop-c.invariant
