use Rattle.vpf_tiler.specs.Inner.TiledFiles.WrittenLaws.{table_opens}
use Rattle.vpf_tiler.proofs.tiled_features.MadeLibrary.{made_with_features}
use Rattle.vpf_tiler.proofs.tiled_features.laws.made_with_features.Goals as goal

pub returns : goal.returns
returns c = made_with_features (record {
  tiles = c.made_agrees.ensures.accepted;
  next = c.made_agrees.ensures.next;
  cycles = c.made_agrees.ensures.cycles;
  glued = c.made_agrees.ensures.glued;
  making = record {
    serve = c.built_indexes_serve.ensures;
    opens = table_opens c.fitting_is_written.ensures.spelled c.written_is_read.ensures.spelled c.canonical_is_read.ensures.spelled;
    writable = c.read_is_writable.ensures;
  };
  tables = c.tables_are_read.ensures;
  agree = c.written_agree.ensures;
  read = c.written_are_read.ensures;
  no_schema = c.no_schema_table_is_made.ensures;
})
