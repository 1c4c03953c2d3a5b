use Rattle.vpf_cut_rings.proofs.LeastLemmas.{leasts_begin}
use Rattle.vpf_cut_rings.proofs.laws.leasts_begin_cycles.Goals as goal

pub returns : goal.returns
returns c = leasts_begin
