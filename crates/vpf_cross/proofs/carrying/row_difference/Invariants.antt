use Rattle.std.proofs.Common.{◌≡◌, drop, map}
use Rattle.vpf_prims.specs.Reading.{carried_in}
use Rattle.vpf_prims.specs.Roles.{role_of}
use Rattle.vpf_prims.specs.Suiting.{carried_columns}
use Rattle.vpf_cross.specs.Carrying.{first_difference}
use Rattle.vpf_cross.proofs.carrying.row_difference.Given as goal

abbrev pub invariant-loop-c : goal.invariant-loop-c
invariant-loop-c l =
    first_difference (carried_columns (map role_of l.roles) (drop l.c l.header.columns)) (carried_in (map role_of l.roles) (drop l.c l.header.columns) (drop l.c l.row))
    (carried_in (map role_of l.roles) (drop l.passed l.other_header.columns) (drop l.passed l.other_row))
    ≡ first_difference (carried_columns (map role_of l.roles) l.header.columns) (carried_in (map role_of l.roles) l.header.columns l.row)
    (carried_in (map role_of l.roles) l.other_header.columns l.other_row)
