use Rattle.std.proofs.Common.{◌≡◌, ◌+◌, ◌≤◌, ◌++◌, length, map, vec_len}
use Rattle.std.specs.Prelude.{All, vec_capacity}
use Rattle.vpf_table.specs.Grid.{Row}
use Rattle.vpf_theme.specs.Findings.{cells_of}
use Rattle.vpf_joins.specs.Keys.Keys.{keyed_from, keyed_in, keyed_of}
use Rattle.vpf_joins.proofs.keys.PutLemmas.{cell_in}
use Rattle.vpf_joins.proofs.keys.keyed.put_keys.Given as goal

abbrev pub invariant-loop-row : goal.invariant-loop-row
invariant-loop-row l = record {
  put : map keyed_of l.keys.items ++ keyed_from l.tile (l.number + 1) (map (cell_in l.column) l.row-iterator) ≡ map keyed_of l.initial.keys.items ++ keyed_in l.tile (cells_of l.table l.column);
  count : l.number + length l.row-iterator ≡ length l.table.rows;
  room : vec_len l.keys + length l.row-iterator ≤ vec_capacity l.keys;
  width : All (λ (row : Row). length row ≡ length l.table.head.columns) l.row-iterator;
}
