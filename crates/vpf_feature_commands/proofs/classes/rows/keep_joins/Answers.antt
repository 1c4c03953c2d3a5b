use Rattle.std.proofs.Common.{◌∙◌, List, ap, map, rules}
use Rattle.std.proofs.lemmas.List.Elements.{filter_from_retain}
use Rattle.vpf_feature_files.specs.declared.schema_rows.rows.SchemaRow.{SchemaRow}
use Rattle.vpf_feature_files.specs.SchemaRows.Joins.{is_join, join_of}
use Rattle.vpf_feature_commands.proofs.classes.RowLemmas.{kept_seen}
use Rattle.vpf_feature_commands.proofs.classes.rows.keep_joins.Goals as goal

pub returns : goal.returns
returns c =
    ap (λ (rows : List SchemaRow). map join_of rows) (filter_from_retain _ (λ (row : SchemaRow). is_join (join_of row)) (λ p x b q r. search rules) _ _ _ c.retain.ensures.filtered)
    ∙ kept_seen join_of (is_join) c.args.rows.now.items
