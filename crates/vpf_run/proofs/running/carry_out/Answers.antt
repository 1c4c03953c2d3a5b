use Rattle.std.proofs.Common.{refl}
use Rattle.vpf_run.proofs.Telling.{all_tells, one_tells, between_tells}
use Rattle.vpf_run.proofs.running.carry_out.Goals as goal

pub returns-in-Ok-clause-tells_files : goal.returns-in-Ok-clause-tells_files
returns-in-Ok-clause-tells_files g c = all_tells c.made.result.now _ _ c.in-Ok.ensures.made

pub returns-in-Err-Failed-clause-tells_files : goal.returns-in-Err-Failed-clause-tells_files
returns-in-Err-Failed-clause-tells_files g c = one_tells _ _ _ (c.in-Err-Failed.ensures.at_one (rw c.in-Err-Failed.field-0-is refl))

pub returns-in-Err-NoMemory-clause-tells_files : goal.returns-in-Err-NoMemory-clause-tells_files
returns-in-Err-NoMemory-clause-tells_files g c = between_tells _ _ _ (c.in-Err-NoMemory.ensures.between (rw c.in-Err-NoMemory.field-0-is refl))
