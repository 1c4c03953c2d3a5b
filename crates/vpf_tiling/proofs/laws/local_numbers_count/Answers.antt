use Rattle.vpf_tiling.proofs.CountLemmas as lemmas
use Rattle.vpf_tiling.proofs.laws.local_numbers_count.Goals as goal

pub returns : goal.returns
returns c = record { edges = lemmas.edges_are_counted; nodes = lemmas.nodes_are_counted; faces = lemmas.faces_are_counted }
