use Rattle.std.proofs.Common.{◌∙◌, ℕ, List, ap}
use Rattle.vpf_source.specs.Names.Items.{small}
use Rattle.vpf_feature_files.specs.SchemaRows.Items.{is_feature_end, last_bytes}
use Rattle.vpf_feature_files.proofs.schema_rows.ItemLemmas.{small_slice}
use Rattle.vpf_feature_files.proofs.schema_rows.items.ItemName.is_feature_table.Goals as goal

pub returns : goal.returns
returns c =
    c.is_feature_end.ensures ∙ ap is_feature_end (small_slice 4 c.saturating_sub.result c.trimmed-name.result.now c.saturating_sub.ensures)
    ∙ ap (λ (name : List ℕ). is_feature_end (last_bytes 4 (small name))) c.trimmed-name.ensures
