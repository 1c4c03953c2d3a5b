use Rattle.std.proofs.Common.{◌≡◌, ◌∙◌, length, map, take, sym, ap, subst, Err, Option, arith}
use Rattle.std.proofs.lemmas.List.Elements.{All-rest}
use Rattle.std.proofs.lemmas.Result.{err_from_is_err_and}
use Rattle.vpf_table.specs.Grid.{Row}
use Rattle.vpf_findings.specs.Findings.{Disagreement}
use Rattle.vpf_findings.specs.Firsts.{Tells}
use Rattle.vpf_findings.specs.Inner.FirstLaws.{rows_pass}
use Rattle.vpf_prims.specs.Columns.{role_at}
use Rattle.vpf_library_files.specs.Inner.Tileref.Texts.{texts_in}
use Rattle.vpf_library_files.specs.Tileref.Tileref.{row_path, tile_row_lines}
use Rattle.vpf_library_files.proofs.tileref.TakingLemmas.{next_is, next_path, paths_more, stepped, stops_at_row, taken_more, texts_more}
use Rattle.vpf_library_files.proofs.tileref.rows.paths_of.Goals as goal

pub loop-row-preserved : goal.loop-row-preserved
loop-row-preserved c =
    let i = c.loop-row.invariant in
    let id = role_at c.args.columns.now.id in
    let name = role_at c.args.columns.now.name in
    let rows = c.args.table.now.rows in
    let paths = map (row_path name) rows in
    let k = c.loop-row.k in
    let row = c.in-Some.row in
    let texts = texts_in c.loop-row.paths in
    let steps = c.in-Some.ensures.steps in
    let silent = c.in_ok-take_row.ensures.first in
    let none = sym (next_is id name paths texts k row i.paths i.put) ∙ silent in
    let step = stepped rows k row c.loop-row.row-iterator c.next.new.self i.rest steps in
    let more = taken_more (row_path name) rows k row step.0 step.1 in
    record {
      left = sym (rows_pass (tile_row_lines id name paths) k row c.loop-row.row-iterator c.next.new.self steps none) ∙ i.left;
      rest = step.2;
      put = texts_more (take k paths) _ (row_path name row) texts _ more c.in_ok-take_row.ensures.put i.put;
      paths = paths_more (take k paths) _ (row_path name row) more i.paths (next_path id name texts _ row silent);
      width = All-rest (λ (r : Row). length r ≡ length c.args.table.now.head.columns) row c.next.new.self c.loop-row.row-iterator steps i.width;
      count = omega (arith, i.count, ap length steps);
    }

pub returns-in_err-take_row-clause-first : goal.returns-in_err-take_row-clause-first
returns-in_err-take_row-clause-first c =
    let i = c.loop-row.invariant in
    let id = role_at c.args.columns.now.id in
    let name = role_at c.args.columns.now.name in
    let paths = map (row_path name) c.args.table.now.rows in
    let k = c.loop-row.k in
    let row = c.in-Some.row in
    let texts = texts_in c.loop-row.paths in
    let e = c.in_err-take_row.field-0.0 in
    let told_at : Option Disagreement → Type 0 = λ (v : Option Disagreement). Tells {V = Unit {0}} (Err e) v in
    let told = subst told_at (next_is id name paths texts k row i.paths i.put) c.in_err-take_row.ensures.first in
    let p = err_from_is_err_and c.from_residual.result c.from_residual.ensures.1 in
    rw (p.1, p.2) (stops_at_row e (tile_row_lines id name paths) k row c.loop-row.row-iterator c.next.new.self _ c.in-Some.ensures.steps told i.left)
