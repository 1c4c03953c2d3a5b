use Rattle.std.proofs.Common.{◌≡◌, ◌+◌, length}
use Rattle.std.specs.Prelude.{All}
use Rattle.vpf_findings.specs.Firsts.{first_of_rows}
use Rattle.vpf_prims.specs.Columns.{role_at}
use Rattle.vpf_prims.specs.Lines.{id_line}
use Rattle.vpf_features.specs.Lines.{feature_at}
use Rattle.vpf_features.proofs.rows.check_ids.Given as goal

abbrev pub invariant-loop-row : goal.invariant-loop-row
invariant-loop-row l = record {
  left : first_of_rows (λ k row. id_line feature_at k (role_at l.column) row) (l.k + 1) l.row-iterator
      ≡ first_of_rows (λ k row. id_line feature_at k (role_at l.column) row) 1 l.table.rows;
  width : All (λ row. length row ≡ length l.table.head.columns) l.row-iterator;
  count : l.k + length l.row-iterator ≡ length l.table.rows;
}
