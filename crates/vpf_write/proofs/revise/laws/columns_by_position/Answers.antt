use Rattle.std.proofs.Common.{refl, arith}
use Rattle.vpf_head.specs.Head.{Col}
use Rattle.vpf_write.specs.Revise.Revising.{revised_column}
use Rattle.vpf_write.proofs.revise.Placing.{length-each, slice_get-each}
use Rattle.vpf_base.proofs.Lists.{each_kept}
use Rattle.vpf_write.proofs.revise.laws.columns_by_position.Goals as goal

pub returns-clause-width : goal.returns-clause-width
returns-clause-width c = λ changes columns. length-each (λ at. revised_column changes at.0 at.1) 0 columns

pub returns-clause-names : goal.returns-clause-names
returns-clause-names c = λ changes columns. each_kept (λ at. revised_column changes at.0 at.1) (λ (column : Col). column.name) 0 columns (λ k column. refl)

pub returns-clause-each : goal.returns-clause-each
returns-clause-each c = λ changes columns k. slice_get-each (λ at. revised_column changes at.0 at.1) 0 k k columns (omega arith)
