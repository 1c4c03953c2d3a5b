use Rattle.vpf_run.proofs.Answering.{plain_answers}
use Rattle.vpf_run.proofs.laws.plain_answers.Goals as goal

pub returns : goal.returns
returns c = plain_answers c.plain_rows.ensures
