use Rattle.std.proofs.Common.{◌≡◌, length}
use Rattle.std.proofs.lemmas.List.Elements.{All-rest}
use Rattle.vpf_table.specs.Grid.{Row}
use Rattle.vpf_feature_files.specs.SchemaRows.Joins.{join_in_row, join_of}
use Rattle.vpf_feature_files.specs.Inner.SchemaRows.Placed.{AreSchemaColumns}
use Rattle.vpf_feature_files.proofs.schema_rows.RowLemmas.{said_more}
use Rattle.vpf_feature_files.proofs.schema_rows.rows.schema_rows.Goals as goal

pub loop-row-preserved : goal.loop-row-preserved
loop-row-preserved c =
    let i = c.loop-row.invariant in
    let columns = c.args.table.now.head.columns in
    let steps = c.in-Some.ensures.steps in
    let found = c.in-Ok.ensures in
    let there : AreSchemaColumns c.header.result.now.columns c.in-Ok.columns = record { class = found.class; table1 = found.table1; key1 = found.key1; table2 = found.table2; key2 = found.key2 } in
    let placed : AreSchemaColumns columns c.in-Ok.columns = rw c.header.ensures at there in
    record {
      rows = said_more join_of (join_in_row columns) c.loop-row.rows.items c.push.new.self.items c.of.result c.in-Some.row c.loop-row.row-iterator c.next.new.self _ c.in_ok-push.ensures.items
          (c.of.ensures columns placed) steps i.rows;
      width = All-rest (λ (row : Row). length row ≡ length columns) c.in-Some.row c.next.new.self c.loop-row.row-iterator steps i.width;
    }
