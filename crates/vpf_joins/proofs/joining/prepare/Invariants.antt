use Rattle.std.proofs.Common.{◌≡◌, length, map, take}
use Rattle.std.specs.List.{All, flat_map}
use Rattle.vpf_table.specs.Grid.{Row}
use Rattle.vpf_feature_files.specs.SchemaRows.Joins.{join_of}
use Rattle.vpf_joins.specs.Joining.{joined_by}
use Rattle.vpf_joins.specs.Inner.Prepared.{IsKeyWithin, answers_of}
use Rattle.vpf_joins.proofs.joining.prepare.Given as goal

abbrev pub invariant-loop-said : goal.invariant-loop-said
invariant-loop-said l = record {
  within : All (IsKeyWithin (length l.header.columns)) l.joins.items;
  answers : (row : Row) → answers_of l.joins.items row ≡ flat_map (joined_by l.coverage l.header.columns row) (map join_of (take l.said-index l.rows));
}
