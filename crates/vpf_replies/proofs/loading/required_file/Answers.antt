use Rattle.std.proofs.lemmas.Result.{err_from_is_err_and}
use Rattle.vpf_replies.specs.Found.{missing_answer}
use Rattle.vpf_replies.proofs.loading.required_file.Goals as goal

pub returns-in_err-found-clause-told : goal.returns-in_err-found-clause-told
returns-in_err-found-clause-told g c files e =
    let p = err_from_is_err_and c.from_residual.result c.from_residual.ensures.1 in
    rw (p.1, p.2) (λ over. c.in_err-found.ensures.told files e over (missing_answer c.args.name.now))
