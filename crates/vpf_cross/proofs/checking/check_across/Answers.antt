use Rattle.std.proofs.Common.{◌∙◌}
use Rattle.std.proofs.lemmas.Result.{err_from_is_err_and}
use Rattle.vpf_cross.proofs.CheckLemmas.{says, silent}
use Rattle.vpf_cross.proofs.checking.check_across.Goals as goal

pub returns-in_err-check_all_homes : goal.returns-in_err-check_all_homes
returns-in_err-check_all_homes c =
    let p = err_from_is_err_and c.from_residual.result c.from_residual.ensures.1 in
    rw (p.1, p.2) (says _ _ _ c.in_err-check_all_homes.ensures)

pub returns-in_err-check_all_rounds : goal.returns-in_err-check_all_rounds
returns-in_err-check_all_rounds c =
    let p = err_from_is_err_and c.from_residual-in_err-check_all_rounds.result c.from_residual-in_err-check_all_rounds.ensures.1 in
    rw (p.1, p.2) (silent _ _ c.in_ok-check_all_homes.ensures ∙ says _ _ _ c.in_err-check_all_rounds.ensures)
