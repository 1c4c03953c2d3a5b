use Rattle.std.proofs.Common.{◌∙◌, ◌<◌, length, map, sym, ap, arith}
use Rattle.std.proofs.lemmas.Result.{err_from_is_err_and}
use Rattle.vpf_head.specs.Inner.Views.{col}
use Rattle.vpf_prims.specs.Roles.{role_of}
use Rattle.vpf_numbers.specs.ColumnLines.{lacking_finding}
use Rattle.vpf_numbers.proofs.CarriedLemmas.{bare_found, bare_passed, lacking_left, lacking_stop}
use Rattle.vpf_numbers.proofs.carried.check_lacking.Goals as goal

pub loop-c-preserved-then-has_role : goal.loop-c-preserved-then-has_role
loop-c-preserved-then-has_role c =
    let within : c.loop-c.c < length c.args.there.now.columns = omega arith in
    let passed = bare_passed (map role_of c.args.roles.now) c.args.there.now.columns c.loop-c.c (col c.at-column.result.now) within c.at-column.ensures (sym c.if-has_role.ensures) in
    ap (lacking_finding c.args.at c.args.header.now.columns c.args.there.now.columns) passed ∙ c.loop-c.invariant

pub returns-in_err-check_named : goal.returns-in_err-check_named
returns-in_err-check_named c =
    let within : c.loop-c.c < length c.args.there.now.columns = omega arith in
    let found = bare_found (map role_of c.args.roles.now) c.args.there.now.columns c.loop-c.c (col c.at-column.result.now) within c.at-column.ensures (sym c.if-has_role.ensures) in
    let p = err_from_is_err_and c.from_residual.result c.from_residual.ensures.1 in
    rw (p.1, p.2)
    (sym c.loop-c.invariant ∙ ap (lacking_finding c.args.at c.args.header.now.columns c.args.there.now.columns) found
    ∙ lacking_stop c.args.at c.args.header.now.columns c.args.there.now.columns (col c.at-column.result.now) _ _ c.in_err-check_named.ensures)

pub loop-c-preserved : goal.loop-c-preserved
loop-c-preserved c =
    let within : c.loop-c.c < length c.args.there.now.columns = omega arith in
    let found = bare_found (map role_of c.args.roles.now) c.args.there.now.columns c.loop-c.c (col c.at-column.result.now) within c.at-column.ensures (sym c.if-has_role.ensures) in
    lacking_left c.args.at c.args.header.now.columns c.args.there.now.columns (col c.at-column.result.now) _ c.in_ok-check_named.ensures
    ∙ ap (lacking_finding c.args.at c.args.header.now.columns c.args.there.now.columns) (sym found)
    ∙ c.loop-c.invariant
