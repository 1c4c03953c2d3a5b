use Rattle.vpf_tiling_laws.proofs.gluing.WholeLemmas as lemmas
use Rattle.vpf_tiling_laws.proofs.gluing.laws.gluing_gives_renumbered.Goals as goal

pub returns-clause-whole : goal.returns-clause-whole
returns-clause-whole c = lemmas.whole_is_named c.map_is_named.ensures

pub returns-clause-glued : goal.returns-clause-glued
returns-clause-glued c = lemmas.gluing_gives_renumbered c.map_is_named.ensures
