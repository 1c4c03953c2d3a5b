use Rattle.std.proofs.Common.{◌<◌, length, map, sym, ◌∙◌, arith}
use Rattle.vpf_head.specs.Inner.Views.{col}
use Rattle.vpf_prims.specs.Roles.{role_of}
use Rattle.vpf_cross.proofs.CarryLemmas.{cell_passed}
use Rattle.vpf_cross.proofs.carrying.next_carried.Goals as goal

pub loop-c-preserved : goal.loop-c-preserved
loop-c-preserved c row width =
    let within : c.loop-c.c < length c.args.header.now.columns = omega arith in
    cell_passed (map role_of c.args.roles.now) c.args.header.now.columns row c.loop-c.c (col c.at.result.now) width within c.at.ensures (sym c.has_role.ensures ∙ c.if-not-has_role.false)
    ∙ c.loop-c.invariant row width
