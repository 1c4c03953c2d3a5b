use Rattle.std.proofs.Common.{◌∙◌}
use Rattle.std.proofs.lemmas.Result.{err_from_is_err_and}
use Rattle.vpf_table_commands.proofs.Feedings.{faults_on}
use Rattle.vpf_table_commands.proofs.feeding.feed_file.Goals as goal

pub returns-in_err-count-clause-fed : goal.returns-in_err-count-clause-fed
returns-in_err-count-clause-fed g c = λ files e size.
    let kept = c.loop-at.invariant in
    let p = err_from_is_err_and c.from_residual.result c.from_residual.ensures.1 in
    rw (p.1, p.2) (c.in_err-count.ensures.fed files (kept.kept ∙ e) (kept.fed files e size))

pub returns-in_err-count-clause-fault : goal.returns-in_err-count-clause-fault
returns-in_err-count-clause-fault g c =
    let p = err_from_is_err_and c.from_residual.result c.from_residual.ensures.1 in
    rw (p.1, p.2) (faults_on _ _ _ _ _ c.loop-at.invariant.stood c.in_err-count.ensures.fault)
