use Rattle.vpf_trace.specs.Inner.AgreeLaws.{agreeing_traceable}
use Rattle.vpf_renumbering.proofs.whole.SignLemmas.{two_signs}
use Rattle.vpf_renumbering.proofs.glued_faces.FewLemmas.{few_faces}
use Rattle.vpf_renumbering.proofs.glued_faces.laws.agreeing_has_few_faces.Goals as goal

pub returns : goal.returns
returns c L a =
    few_faces L (record {
      numbered = a.numbered;
      cycles = a.cycles;
      is_map = c.library_has_map.ensures.map L a;
      signs = two_signs L (agreeing_traceable L a);
    })
