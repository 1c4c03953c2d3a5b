use Rattle.std.proofs.Common.{◌∙◌, List, ap, map, rules}
use Rattle.std.proofs.lemmas.Fn.{filter_same}
use Rattle.vpf_feature_files.specs.declared.schema_rows.rows.SchemaRow.{SchemaRow}
use Rattle.vpf_feature_files.specs.SchemaRows.Joins.{has_class, join_of}
use Rattle.vpf_feature_commands.proofs.classes.RowLemmas.{kept_seen}
use Rattle.vpf_feature_commands.proofs.classes.rows.keep_class.Goals as goal

pub returns : goal.returns
returns c =
    ap (λ (rows : List SchemaRow). map join_of rows) (filter_same _ (λ (row : SchemaRow). has_class c.args.class.now (join_of row)) _ (λ x b q r. search rules) _ _ c.retain.ensures.filtered)
    ∙ kept_seen join_of (has_class c.args.class.now) c.args.rows.now.items
