use Rattle.vpf_primitive_tables.proofs.tile_writing.TileTables.{tileref_read, tileref_writable}
use Rattle.vpf_primitive_tables.proofs.tile_writing.laws.tilerefs_are_written.Goals as goal

pub returns-clause-writable : goal.returns-clause-writable
returns-clause-writable c = tileref_writable (record {
  sound = c.sound_headers_stay_sound.ensures.in_each_kind;
  width = c.columns_by_position.ensures.width;
  named = c.columns_by_position.ensures.names;
  places = c.columns_by_position.ensures.each;
  others = c.revised_rows_fit.ensures.same;
  row = c.revised_rows_fit.ensures.row;
  numbers = c.numbers_and_ids_fit.ensures.numbers;
  ids = c.numbers_and_ids_fit.ensures.ids;
})

pub returns-clause-read : goal.returns-clause-read
returns-clause-read c = tileref_read (record {
  sound = c.sound_headers_stay_sound.ensures.in_each_kind;
  width = c.columns_by_position.ensures.width;
  named = c.columns_by_position.ensures.names;
  places = c.columns_by_position.ensures.each;
  others = c.revised_rows_fit.ensures.same;
  row = c.revised_rows_fit.ensures.row;
  numbers = c.numbers_and_ids_fit.ensures.numbers;
  ids = c.numbers_and_ids_fit.ensures.ids;
})
