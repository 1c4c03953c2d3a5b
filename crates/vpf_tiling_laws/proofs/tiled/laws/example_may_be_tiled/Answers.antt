use Rattle.vpf_tiling_laws.proofs.tiled.ExampleLemmas.{is_tileable}
use Rattle.vpf_tiling_laws.proofs.tiled.laws.example_may_be_tiled.Goals as goal

pub returns : goal.returns
returns c = is_tileable c.loops_decide.ensures c.cycles_decide.ensures
