use Rattle.vpf_write.specs.Inner.WritingLaws.{small_table}
use Rattle.vpf_write.proofs.laws.written_is_read.Goals as goal

pub returns-clause-spelled : goal.returns-clause-spelled
returns-clause-spelled c = λ g w e. c.canonical_is_read.ensures.spelled g w (small_table g e)

pub returns-clause-read_again : goal.returns-clause-read_again
returns-clause-read_again c = λ g w e. c.canonical_is_read.ensures.read_again g w (small_table g e)

pub returns-clause-spans : goal.returns-clause-spans
returns-clause-spans c = λ g w e. c.canonical_is_read.ensures.spans g w (small_table g e)

pub returns-clause-opened_again : goal.returns-clause-opened_again
returns-clause-opened_again c = λ g w e. c.canonical_is_read.ensures.opened_again g w (small_table g e)
