use Rattle.vpf_cross.proofs.LawAgreement.{agreement_decides}
use Rattle.vpf_cross.proofs.laws.agreement_decides.Goals as goal

pub returns : goal.returns
returns c =
    agreement_decides (record {
      cycles = c.cycles_decide.ensures;
      loops = c.tile_loops_decide.ensures;
      sides = c.sides_decide.ensures;
      followers = c.followers_decide.ensures;
      homes = c.homes_exist.ensures;
      lies = c.darts_lie_on_cycles.ensures;
    })
