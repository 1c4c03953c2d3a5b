use Rattle.std.proofs.Common.{arith, map}
use Rattle.vpf_feature_files.specs.Inner.SchemaRows.Listing.{item_text}
use Rattle.vpf_feature_files.proofs.schema_rows.LeftLemmas.{row_left}
use Rattle.vpf_feature_files.proofs.schema_rows.tables.feature_items.Goals as goal

pub loop-row-preserved : goal.loop-row-preserved
loop-row-preserved c =
    let i = c.loop-row.invariant in
    let first = c.in_ok-note.ensures in
    let second = c.in_ok-note-2.ensures in
    record {
      left = row_left c.args.rows.now c.loop-row.row-index _ (map item_text c.loop-row.seen) (map item_text c.note.new.seen) (map item_text c.note-in-loop-row.new.seen)
          (map item_text c.loop-row.items.items) (map item_text c.note.new.items.items) (map item_text c.note-in-loop-row.new.items.items) _ c.loop-row-test.true
          first.seen first.items second.seen second.items i.left;
      few = omega (arith, first.few, second.few);
    }
