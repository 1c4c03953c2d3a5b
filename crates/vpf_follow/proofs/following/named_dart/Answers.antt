use Rattle.std.proofs.Common.{◌<◌, ◌^◌, Some, sym, ap, ◌∙◌, arith}
use Rattle.std.specs.Option.{option_map}
use Rattle.vpf_darts.specs.Darts.{code, sign_of, tile_dart_code}
use Rattle.vpf_prims.specs.Libraries.{library_of}
use Rattle.vpf_follow.proofs.CoverageLemmas.{ends_at_last}
use Rattle.vpf_follow.proofs.RowLemmas.{beq_same, beq_differ, only_none, only_both, only_one}
use Rattle.vpf_follow.proofs.following.named_dart.Goals as goal

pub returns-in_err-row : goal.returns-in_err-row
returns-in_err-row c =
    let few : c.args.edge < 2 ^ 32 = omega arith in
    let start = c.args.start.now in
    ap (option_map tile_dart_code) c.from_residual.ensures
    ∙ sym (only_none (library_of c.args.coverage.now) c.args.tile c.args.edge start.node start.face few (sym c.in_err-row.ensures))

pub returns-then-plus-minus : goal.returns-then-plus-minus
returns-then-plus-minus c =
    let few : c.args.edge < 2 ^ 32 = omega arith in
    let start = c.args.start.now in
    let same = sym c.begins_at-plus.ensures ∙ beq_same c.begins_at-plus.result c.begins_at-minus.result c.if-plus-minus.true ∙ c.begins_at-minus.ensures in
    sym (only_both (library_of c.args.coverage.now) c.args.tile c.args.edge c.in_ok-row.row start.node start.face (ends_at_last c.args.coverage.now) few
    (sym c.in_ok-row.ensures) same)

pub returns : goal.returns
returns c =
    let few : c.args.edge < 2 ^ 32 = omega arith in
    let start = c.args.start.now in
    let plus = c.begins_at-plus.ensures in
    let minus = c.begins_at-minus.ensures in
    ap (λ m. Some (code c.args.tile c.args.edge (sign_of m))) minus
    ∙ sym (only_one (library_of c.args.coverage.now) c.args.tile c.args.edge c.in_ok-row.row start.node start.face (ends_at_last c.args.coverage.now) few
    (sym c.in_ok-row.ensures)
    (λ same. beq_differ c.begins_at-plus.result c.begins_at-minus.result c.if-plus-minus.false (plus ∙ same ∙ sym minus)))
