use Rattle.std.proofs.Common.{refl}
use Rattle.std.proofs.lemmas.Result.{err_from_is_err_and}
use Rattle.vpf_coverage.proofs.PlaceLemmas.{empty_tile, some_tile, tables_here}
use Rattle.vpf_coverage.proofs.columns.columns_at.Goals as goal

pub returns-in_default-clause-first : goal.returns-in_default-clause-first
returns-in_default-clause-first c =
    let none = rw c.as_slice.ensures.value at c.in_default.ensures in
    rw (empty_tile c.args.opened.now c.args.t c.requires.placed none) refl

pub check_tables-requires-clause-here : goal.check_tables-requires-clause-here
check_tables-requires-clause-here c =
    let some = rw c.as_slice.ensures.value at c.in-Some.ensures in
    tables_here c.args.opened.now c.args.t c.in-Some.views.now c.args.around.now c.requires.placed c.requires.around some

pub returns-in_err-columns-clause-first : goal.returns-in_err-columns-clause-first
returns-in_err-columns-clause-first c =
    let some = rw c.as_slice.ensures.value at c.in-Some.ensures in
    let first = rw c.as_slice-2.ensures.value at c.first_at-first.ensures.value in
    let p = err_from_is_err_and c.from_residual.result c.from_residual.ensures.1 in
    rw (p.1, p.2, some_tile c.args.opened.now c.args.t c.first_at-first.result c.in-Some.views.now c.requires.placed some first) c.in_err-columns.ensures.first

pub returns-clause-first : goal.returns-clause-first
returns-clause-first c =
    let some = rw c.as_slice.ensures.value at c.in-Some.ensures in
    let first = rw c.as_slice-2.ensures.value at c.first_at-first.ensures.value in
    rw (some_tile c.args.opened.now c.args.t c.first_at-first.result c.in-Some.views.now c.requires.placed some first) c.in_ok-columns.ensures.first
