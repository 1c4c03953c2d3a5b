use Rattle.vpf_library_commands.proofs.tile_theorem.tilings.TilingLemmas as lemmas
use Rattle.vpf_library_commands.proofs.tile_theorem.tilings.laws.none_is_lacked.Goals as goal

pub returns : goal.returns
returns c = lemmas.none_lacked (record {
  opened = c.opened_is_read.ensures;
  spelled = c.read_is_spelled.ensures;
  writable = c.read_is_writable.ensures;
  stops = c.stops_decide.ensures;
  check = c.check_decides_agreement.ensures.coverage;
  features = c.features_decide.ensures;
}) c.made_agrees.ensures.accepted
