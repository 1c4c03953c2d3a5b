use Rattle.std.proofs.Common.{◌≡◌, drop, map}
use Rattle.vpf_prims.specs.Roles.{role_of}
use Rattle.vpf_prims.specs.Suiting.{carried_columns}
use Rattle.vpf_numbers.specs.ColumnLines.{carried_columns_finding}
use Rattle.vpf_numbers.proofs.carried.check_carried.Given as goal

abbrev pub invariant-loop-c : goal.invariant-loop-c
invariant-loop-c l =
    carried_columns_finding l.at l.header.columns l.there.columns (carried_columns (map role_of l.roles) (drop l.c l.header.columns))
    ≡ carried_columns_finding l.at l.header.columns l.there.columns (carried_columns (map role_of l.roles) l.header.columns)
