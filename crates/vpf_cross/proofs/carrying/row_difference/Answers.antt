use Rattle.std.proofs.Common.{◌<◌, ◌+◌, length, drop, map, sym, ◌∙◌, arith}
use Rattle.vpf_value.specs.Values.{view}
use Rattle.vpf_head.specs.Inner.Views.{col}
use Rattle.vpf_prims.specs.Reading.{carried_in}
use Rattle.vpf_prims.specs.Roles.{role_of}
use Rattle.vpf_cross.specs.Carrying.{cell_difference, difference_of}
use Rattle.vpf_cross.proofs.CarryLemmas.{difference_from, difference_passed, difference_short, difference_steps, no_cell, or_first, or_later}
use Rattle.vpf_cross.proofs.carrying.row_difference.Goals as goal

pub loop-c-preserved-then-has_role : goal.loop-c-preserved-then-has_role
loop-c-preserved-then-has_role c =
    let roles = map role_of c.args.roles.now in
    let within : c.loop-c.c < length c.args.header.now.columns = omega arith in
    difference_passed roles c.args.header.now.columns c.args.row.now c.loop-c.c (col c.at-column.result.now)
    (carried_in roles (drop c.loop-c.passed c.args.other_header.now.columns) (drop c.loop-c.passed c.args.other_row.now))
    c.requires.here within c.at-column.ensures (sym c.has_role.ensures ∙ c.if-has_role.true) ∙ c.loop-c.invariant

pub returns-in_default : goal.returns-in_default
returns-in_default c =
    let roles = map role_of c.args.roles.now in
    let none = no_cell roles c.args.other_header.now.columns c.args.other_row.now c.loop-c.passed c.requires.there c.in_default.ensures in
    sym (difference_short roles c.args.header.now.columns c.args.row.now c.loop-c.c _ none) ∙ c.loop-c.invariant

pub returns-in-Some-cell_difference : goal.returns-in-Some-cell_difference
returns-in-Some-cell_difference c =
    let roles = map role_of c.args.roles.now in
    let columns = c.args.header.now.columns in
    let others = c.args.other_header.now.columns in
    let within : c.loop-c.c < length c.args.header.now.columns = omega arith in
    let steps =
    difference_steps roles columns c.args.row.now c.loop-c.c (col c.at-column.result.now) (view c.cell.result) others c.args.other_row.now c.loop-c.passed c.in-Some.d (view c.cell-in-loop-c.result)
    c.requires.here within c.at-column.ensures c.cell.ensures (sym c.has_role.ensures ∙ c.if-has_role.false) c.requires.there c.in-Some.ensures c.cell-in-loop-c.ensures in
    or_first (cell_difference (col c.at-column.result.now) (view c.cell.result) (view c.cell-in-loop-c.result))
    (difference_from roles columns c.args.row.now (c.loop-c.c + 1) (carried_in roles (drop (c.in-Some.d + 1) others) (drop (c.in-Some.d + 1) c.args.other_row.now)))
    (difference_of c.in-Some-cell_difference.difference) c.in-Some-cell_difference.ensures
    ∙ sym steps ∙ c.loop-c.invariant

pub loop-c-preserved : goal.loop-c-preserved
loop-c-preserved c =
    let roles = map role_of c.args.roles.now in
    let columns = c.args.header.now.columns in
    let others = c.args.other_header.now.columns in
    let within : c.loop-c.c < length c.args.header.now.columns = omega arith in
    let steps =
    difference_steps roles columns c.args.row.now c.loop-c.c (col c.at-column.result.now) (view c.cell.result) others c.args.other_row.now c.loop-c.passed c.in-Some.d (view c.cell-in-loop-c.result)
    c.requires.here within c.at-column.ensures c.cell.ensures (sym c.has_role.ensures ∙ c.if-has_role.false) c.requires.there c.in-Some.ensures c.cell-in-loop-c.ensures in
    or_later (cell_difference (col c.at-column.result.now) (view c.cell.result) (view c.cell-in-loop-c.result))
    (difference_from roles columns c.args.row.now (c.loop-c.c + 1) (carried_in roles (drop (c.in-Some.d + 1) others) (drop (c.in-Some.d + 1) c.args.other_row.now)))
    c.in_default-cell_difference.ensures
    ∙ sym steps ∙ c.loop-c.invariant
