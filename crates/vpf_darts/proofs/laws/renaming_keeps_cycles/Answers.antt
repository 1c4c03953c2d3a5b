use Rattle.vpf_darts.proofs.RenameLemmas.{takes_cycles}
use Rattle.vpf_darts.proofs.SetLemmas.{takes_listing, renaming_without, map_renamed}
use Rattle.vpf_darts.proofs.laws.renaming_keeps_cycles.Goals as goal

pub returns-clause-cycles : goal.returns-clause-cycles
returns-clause-cycles c = takes_cycles

pub returns-clause-listing : goal.returns-clause-listing
returns-clause-listing c = takes_listing

pub returns-clause-removal : goal.returns-clause-removal
returns-clause-removal c = renaming_without

pub returns-clause-map : goal.returns-clause-map
returns-clause-map c = map_renamed
