use Rattle.vpf_feed.proofs.staying.laws.cells_and_headers.Goals as goal

pub returns : goal.returns
returns c = record {
  cell_is_read = c.spelled_is_read.ensures;
  cell_is_spelled = c.read_is_spelled.ensures;
  cell_has_room = c.cells_have_room.ensures;
  cell_fault = c.refusals_are_first_faults.ensures.only;
  cell_is_refused = c.refusals_are_first_faults.ensures.each;
  header_is_read = c.spelled_is_read-2.ensures;
  header_is_spelled = c.read_is_spelled-2.ensures;
  header_is_sound = c.read_headers_are_sound.ensures;
  header_fault = c.refusals_are_first_faults-2.ensures.only;
  header_is_refused = c.refusals_are_first_faults-2.ensures.each;
}
