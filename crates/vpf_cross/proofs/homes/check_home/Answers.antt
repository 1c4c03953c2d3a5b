use Rattle.std.proofs.Common.{◌≡◌, ◌<◌, ◌^◌, None, ◌∙◌, arith}
use Rattle.std.proofs.lemmas.Result.{err_from_is_err_and}
use Rattle.vpf_cross.specs.HomeLines.{coverage_links}
use Rattle.vpf_cross.proofs.HomeLemmas.{at_cells, at_flip, at_mark, at_sign, finds_same, sign_line_is, sign_said}
use Rattle.vpf_cross.proofs.homes.check_home.Goals as goal

pub returns-in_err-check_flip : goal.returns-in_err-check_flip
returns-in_err-check_flip c =
    let p = err_from_is_err_and c.from_residual.result c.from_residual.ensures.1 in
    rw (p.1, p.2) (at_flip c.args.followed.now c.args.dart c.args.tile.now _ c.in_err-check_flip.ensures)

pub returns-in_err-check_sign : goal.returns-in_err-check_sign
returns-in_err-check_sign c =
    let small : c.home_copy-home.result.edge < 2 ^ 32 = omega arith in
    let p = err_from_is_err_and c.from_residual-in_err-check_sign.result c.from_residual-in_err-check_sign.ensures.1 in
    let line = sign_line_is (coverage_links c.args.followed.now) c.args.dart c.home_copy-home.result c.args.tile.now small c.home_copy-home.ensures.copy in
    rw (p.1, p.2) (at_sign c.args.followed.now c.args.dart c.args.tile.now _ c.in_ok-check_flip.ensures (line ∙ c.in_err-check_sign.ensures))

pub returns-in_err-check_mark : goal.returns-in_err-check_mark
returns-in_err-check_mark c =
    let small : c.home_copy-home.result.edge < 2 ^ 32 = omega arith in
    let p = err_from_is_err_and c.from_residual-in_err-check_mark.result c.from_residual-in_err-check_mark.ensures.1 in
    let line = sign_line_is (coverage_links c.args.followed.now) c.args.dart c.home_copy-home.result c.args.tile.now small c.home_copy-home.ensures.copy in
    let sign : sign_said c.args.followed.now c.args.dart c.args.tile.now ≡ None = line ∙ c.in_ok-check_sign.ensures in
    rw (p.1, p.2) (at_mark c.args.followed.now c.args.dart c.args.tile.now _ c.in_ok-check_flip.ensures sign (rw c.coverage-coverage.ensures at c.in_err-check_mark.ensures))

pub returns : goal.returns
returns c =
    let small : c.home_copy-home.result.edge < 2 ^ 32 = omega arith in
    let line = sign_line_is (coverage_links c.args.followed.now) c.args.dart c.home_copy-home.result c.args.tile.now small c.home_copy-home.ensures.copy in
    let sign : sign_said c.args.followed.now c.args.dart c.args.tile.now ≡ None = line ∙ c.in_ok-check_sign.ensures in
    finds_same c.check_cells.result _ _ (at_cells c.args.followed.now c.args.dart c.args.tile.now c.in_ok-check_flip.ensures sign (rw c.coverage-coverage.ensures at c.in_ok-check_mark.ensures)) (rw c.coverage-coverage.ensures at c.check_cells.ensures)
