use Rattle.vpf_darts.proofs.DartLemmas.{parts_of_code, code_of_parts, flip_code}
use Rattle.vpf_darts.proofs.laws.numbers_name_darts.Goals as goal

pub returns-clause-parts : goal.returns-clause-parts
returns-clause-parts c = parts_of_code

pub returns-clause-number : goal.returns-clause-number
returns-clause-number c = code_of_parts

pub returns-clause-flip : goal.returns-clause-flip
returns-clause-flip c = flip_code
