use Rattle.std.proofs.Common.{◌≡◌, ◌≤◌, ◌*◌, ◌++◌, drop, length, map}
use Rattle.vpf_feature_files.specs.SchemaRows.Joins.{feature_items, join_of, once_after}
use Rattle.vpf_feature_files.specs.Inner.SchemaRows.Listing.{item_text}
use Rattle.vpf_feature_files.proofs.schema_rows.LeftLemmas.{tables_left}
use Rattle.vpf_feature_files.proofs.schema_rows.tables.feature_items.Given as goal

abbrev pub invariant-loop-row : goal.invariant-loop-row
invariant-loop-row l = record {
  left : map item_text l.items.items ++ once_after (map item_text l.seen) (tables_left (drop l.row-index l.rows)) ≡ feature_items (map join_of l.rows);
  few : length l.seen ≤ 2 * l.row-index;
}
