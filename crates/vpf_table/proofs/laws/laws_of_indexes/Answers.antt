use Rattle.vpf_table.proofs.laws.laws_of_indexes.Goals as goal

pub returns : goal.returns
returns c = record {
  index_is_read = c.spelled_is_read.ensures;
  index_is_spelled = c.read_is_spelled.ensures;
  written_is_read = c.written_is_read.ensures.read_again;
  index_fault = c.refusals_are_first_faults.ensures.only;
  index_is_refused = c.refusals_are_first_faults.ensures.each;
}
