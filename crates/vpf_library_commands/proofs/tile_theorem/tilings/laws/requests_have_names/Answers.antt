use Rattle.vpf_library_commands.proofs.tile_theorem.tilings.TextLemmas as lemmas
use Rattle.vpf_library_commands.proofs.tile_theorem.tilings.laws.requests_have_names.Goals as goal

pub returns : goal.returns
returns c = lemmas.requests_have_names
