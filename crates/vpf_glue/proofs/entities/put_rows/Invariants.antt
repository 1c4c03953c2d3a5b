use Rattle.std.proofs.Common.{◌≡◌, ◌+◌, List, ◌++◌, map, take}
use Rattle.vpf_table.specs.Grid.{Row}
use Rattle.vpf_tiling.specs.Ranks.{numbered_from}
use Rattle.vpf_write.specs.Inner.Tallies.{Holds}
use Rattle.vpf_glue.specs.GluedTables.Grids.{entity_source, glued_entity_row}
use Rattle.vpf_glue.proofs.entities.put_rows.Given as goal

abbrev pub invariant-loop-k : goal.invariant-loop-k
invariant-loop-k l = record {
  head : l.made.head ≡ l.fn.made.head;
  put : (rows : List Row) → Holds l.fn.made rows → Holds l.made
      (rows ++ numbered_from (l.before + 1) (glued_entity_row l.form.table.head.columns l.faces) (take l.k (map (entity_source l.tile l.end.head.columns) l.end.rows)));
}
