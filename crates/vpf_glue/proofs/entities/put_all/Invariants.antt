use Rattle.std.proofs.Common.{◌≡◌, length}
use Rattle.vpf_tiling.specs.Ranks.{numbered}
use Rattle.vpf_write.specs.Inner.Tallies.{Holds}
use Rattle.vpf_glue.specs.GluedTables.Grids.{glued_entity_row}
use Rattle.vpf_glue.specs.Inner.Sources.{sources_before}
use Rattle.vpf_glue.proofs.entities.put_all.Given as goal

abbrev pub invariant-loop-tile : goal.invariant-loop-tile
invariant-loop-tile l = record {
  head : l.made.head ≡ l.fn.made.head;
  count : l.count ≡ length (sources_before l.faces l.tile);
  put : Holds l.made (numbered (glued_entity_row l.form.table.head.columns l.faces) (sources_before l.faces l.tile));
}
