use Rattle.vpf_library_commands.proofs.tile_theorem.tilings.RestLemmas.{rest_lacked}
use Rattle.vpf_library_commands.proofs.tile_theorem.tilings.laws.rest_is_lacked.Goals as goal

pub returns : goal.returns
returns c = rest_lacked (record {
  read = c.written_names.ensures.read;
  tables = c.written_names.ensures.tables;
  edges = c.written_names.ensures.edges;
  free = c.own_names_are_free.ensures;
  schema = c.features_are_held.ensures.held;
  opened = record { opened = c.spelled_is_opened.ensures; again = c.opened_is_read.ensures };
})
