use Rattle.std.proofs.Common.{length, map}
use Rattle.vpf_prims.specs.Numbering.{IsRowOf}
use Rattle.vpf_prims.specs.Roles.{role_of}
use Rattle.vpf_prims.specs.Suiting.{carried_columns}
use Rattle.vpf_cross.specs.Carrying.{carried_at}
use Rattle.vpf_cross.proofs.CarryLemmas.{fails, past_here, past_there}
use Rattle.vpf_cross.proofs.carrying.first_difference.Goals as goal
use Rattle.vpf_cross.proofs.carrying.first_difference.Goals.{then-not-has_row-via-then-not-has_row, then-not-has_row-via-else-not-has_row+then-not-has_row-2}

pub returns-then-not-has_row : goal.returns-then-not-has_row
returns-then-not-has_row c =
    let roles = map role_of c.args.roles.now in
    let cs = carried_columns roles c.args.here.now.head.columns in
    elim c.then-not-has_row.branch [
      | then-not-has_row-via-then-not-has_row w ↦ past_here roles cs c.args.here.now c.args.k (carried_at roles c.args.there.now c.args.j)
          (fails c.has_row.result (IsRowOf (length c.args.here.now.rows) c.args.k) c.has_row.ensures w.if-not-has_row.true)
      | then-not-has_row-via-else-not-has_row+then-not-has_row-2 w ↦ past_there roles cs (carried_at roles c.args.here.now c.args.k) c.args.there.now c.args.j
          (fails w.has_row-else-not-has_row.result (IsRowOf (length c.args.there.now.rows) c.args.j) w.has_row-else-not-has_row.ensures w.if-not-has_row-2.true)
    ]
