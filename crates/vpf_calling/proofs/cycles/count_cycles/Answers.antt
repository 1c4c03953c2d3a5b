use Rattle.vpf_calling.proofs.Learnings.{not_stopped, unloaded}
use Rattle.vpf_calling.proofs.cycles.count_cycles.Goals as goal

pub returns-in-Ok-clause-learned : goal.returns-in-Ok-clause-learned
returns-in-Ok-clause-learned g c = λ files e loaded n is.
    c.cycles_of.ensures.learned loaded.coverage (rw c.deref.ensures.value (c.in-Ok.ensures.held files e loaded n is))

pub returns-in-Err-clause-learned : goal.returns-in-Err-clause-learned
returns-in-Err-clause-learned g c = λ files e loaded n is.
    unloaded loaded n c.in-Err.stop c.unread.result _ c.unread.ensures (c.in-Err.ensures.told files e) is

pub returns-in-Ok-clause-unread : goal.returns-in-Ok-clause-unread
returns-in-Ok-clause-unread g c = λ files e stop n is. absurd (not_stopped stop n _ _ (c.in-Ok.ensures.told files e) is)
