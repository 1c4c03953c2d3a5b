use Rattle.vpf_cut_rings.proofs.OuterLemmas.{outer_begin}
use Rattle.vpf_cut_rings.proofs.laws.outer_rings_begin_cycles.Goals as goal

pub returns : goal.returns
returns c = outer_begin c.first_kept_dart.ensures c.well_formed_has_map.ensures
