use Rattle.std.proofs.Common.{arith}
use Rattle.vpf_write.specs.Revise.Revising.{revised_value}
use Rattle.vpf_write.proofs.revise.Placing.{length-each, slice_get-each}
use Rattle.vpf_write.proofs.revise.laws.rows_by_position.Goals as goal

pub returns-clause-width : goal.returns-clause-width
returns-clause-width c = λ changes row. length-each (λ at. revised_value changes at.0 at.1) 0 row

pub returns-clause-each : goal.returns-clause-each
returns-clause-each c = λ changes row k. slice_get-each (λ at. revised_value changes at.0 at.1) 0 k k row (omega arith)
