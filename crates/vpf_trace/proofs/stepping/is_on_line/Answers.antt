use Rattle.std.proofs.Common.{◌^◌, ◌<◌, ap, sym, ◌∙◌, arith}
use Rattle.std.specs.Option.{option_map}
use Rattle.vpf_prims.specs.declared.rows.EdgeRow.{EdgeRow}
use Rattle.vpf_trace.proofs.MarkLemmas.{line_nowhere, line_past, line_there, line_zero}
use Rattle.vpf_trace.proofs.stepping.is_on_line.Goals as goal

pub returns-in-Some : goal.returns-in-Some
returns-in-Some c =
    let few : c.args.dart.edge < 2 ^ 32 = omega arith in
    ap (λ (r : EdgeRow). r.line) c.edge.ensures ∙ line_there c.args.coverage.now c.args.dart c.in-Some.tile.now few c.in-Some.ensures

pub returns-in_default : goal.returns-in_default
returns-in_default c =
    let few : c.args.dart.edge < 2 ^ 32 = omega arith in
    line_past c.args.coverage.now c.args.dart c.in-Some.tile.now few c.in-Some.ensures (omega (arith, c.edges.ensures.value))

pub returns-in_default-2 : goal.returns-in_default-2
returns-in_default-2 c =
    let few : c.args.dart.edge < 2 ^ 32 = omega arith in
    line_zero c.args.coverage.now c.args.dart few (omega arith)

pub returns-in_default-3 : goal.returns-in_default-3
returns-in_default-3 c =
    let few : c.args.dart.edge < 2 ^ 32 = omega arith in
    line_nowhere c.args.coverage.now c.args.dart few (ap (option_map (λ t. t.now)) (sym c.in_default.is) ∙ c.tile.ensures)
