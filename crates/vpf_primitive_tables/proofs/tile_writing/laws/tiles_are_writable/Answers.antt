use Rattle.vpf_primitive_tables.proofs.tile_writing.WritableTables.{tables_writable}
use Rattle.vpf_primitive_tables.proofs.tile_writing.laws.tiles_are_writable.Goals as goal

pub returns : goal.returns
returns c = tables_writable (record {
  sound = c.sound_headers_stay_sound.ensures.in_each_kind;
  width = c.columns_by_position.ensures.width;
  named = c.columns_by_position.ensures.names;
  places = c.columns_by_position.ensures.each;
  others = c.revised_rows_fit.ensures.same;
  row = c.revised_rows_fit.ensures.row;
  numbers = c.numbers_and_ids_fit.ensures.numbers;
  ids = c.numbers_and_ids_fit.ensures.ids;
})
