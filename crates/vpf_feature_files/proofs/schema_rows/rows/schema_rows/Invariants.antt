use Rattle.std.proofs.Common.{◌≡◌, ◌++◌, length, map}
use Rattle.std.specs.Prelude.{All}
use Rattle.vpf_feature_files.specs.SchemaRows.Joins.{join_in_row, join_of}
use Rattle.vpf_feature_files.proofs.schema_rows.rows.schema_rows.Given as goal

abbrev pub invariant-loop-row : goal.invariant-loop-row
invariant-loop-row l = record {
  rows : map join_of l.rows.items ++ map (join_in_row l.table.head.columns) l.row-iterator ≡ map (join_in_row l.table.head.columns) l.table.rows;
  width : All (λ row. length row ≡ length l.table.head.columns) l.row-iterator;
}
