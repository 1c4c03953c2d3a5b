use Rattle.std.proofs.Common.{rules, ◌∙◌, sym}
use Rattle.vpf_feature_files.proofs.schema_rows.ListLemmas.{other_item, known_item, first_item}
use Rattle.vpf_feature_files.proofs.schema_rows.tables.note.Goals as goal
use Rattle.vpf_feature_files.proofs.schema_rows.tables.note.Goals.{else-is_feature_table-via-then-is_feature_table+in_ok-put+else-is_none, else-is_feature_table-via-else-is_feature_table}

pub returns-in_ok-push-clause-items : goal.returns-in_ok-push-clause-items
returns-in_ok-push-clause-items c =
    first_item c.args.seen.now c.args.items.now.items c.push.new.self.items c.args.item c.in_ok-put.field-0 (sym c.is_feature_table.ensures ∙ c.if-is_feature_table.true)
    c.in_ok-put.ensures.first (search rules) c.in_ok-push.ensures.items

pub returns-else-is_feature_table-clause-items : goal.returns-else-is_feature_table-clause-items
returns-else-is_feature_table-clause-items c = elim c.else-is_feature_table.branch [
  | else-is_feature_table-via-then-is_feature_table+in_ok-put+else-is_none w ↦
      known_item c.args.seen.now c.args.items.now.items c.args.item w.in_ok-put.field-0 (sym c.is_feature_table.ensures ∙ w.if-is_feature_table.true)
      w.in_ok-put.ensures.first (search rules)
  | else-is_feature_table-via-else-is_feature_table w ↦
      other_item c.args.seen.now c.args.items.now.items c.args.item (sym c.is_feature_table.ensures ∙ w.if-is_feature_table.false)
]
