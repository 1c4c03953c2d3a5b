use Rattle.std.proofs.Common.{map}
use Rattle.vpf_prims.specs.Roles.{role_of}
use Rattle.vpf_cross.specs.Carrying.{CarryNone}
use Rattle.vpf_cross.proofs.carrying.next_carried.Given as goal

abbrev pub invariant-loop-c : goal.invariant-loop-c
invariant-loop-c l = CarryNone (map role_of l.roles) l.header.columns l.from l.c
