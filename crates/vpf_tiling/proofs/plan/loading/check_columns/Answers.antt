use Rattle.vpf_findings.specs.Findings.{disagreement_of}
use Rattle.vpf_tiling.proofs.plan.PlanLemmas.{columns_right, columns_wrong}
use Rattle.vpf_tiling.proofs.plan.loading.check_columns.Goals as goal

pub returns-in-Ok-clause-finds : goal.returns-in-Ok-clause-finds
returns-in-Ok-clause-finds c table are =
    columns_right c.args.name.now table c.header.result.now c.in_ok-table.table c.header.ensures (c.in_ok-table.ensures c.args.name.now table.grid are) c.in-Ok.ensures.first

pub returns-clause-finds : goal.returns-clause-finds
returns-clause-finds c table are =
    columns_wrong c.args.name.now table c.header.result.now c.in_ok-table.table (disagreement_of c.in-Err.finding) c.in_ok-stop_of-in-Err.field-0 c.header.ensures
    (c.in_ok-table.ensures c.args.name.now table.grid are) c.in-Err.ensures.first c.in_ok-stop_of-in-Err.ensures
