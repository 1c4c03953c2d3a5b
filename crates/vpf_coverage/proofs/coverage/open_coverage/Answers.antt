use Rattle.vpf_coverage.proofs.coverage.open_coverage.Goals as goal

pub open_unopened-requires : goal.open_unopened-requires
open_unopened-requires c = (c.requires.0, rw c.of.ensures c.requires.1)

pub returns-clause-first : goal.returns-clause-first
returns-clause-first c whole are = c.open_unopened.ensures.first whole (rw c.of.ensures are)

pub returns-clause-opened : goal.returns-clause-opened
returns-clause-opened c whole are = c.open_unopened.ensures.opened whole (rw c.of.ensures are)
