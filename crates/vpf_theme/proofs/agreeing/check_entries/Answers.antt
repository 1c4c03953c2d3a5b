use Rattle.std.proofs.Common.{length, map, arith}
use Rattle.std.proofs.lemmas.Result.{err_from_is_err_and}
use Rattle.vpf_value.specs.Values.{view}
use Rattle.vpf_head.specs.Inner.Views.{col}
use Rattle.vpf_theme.specs.Findings.{lines_at}
use Rattle.vpf_theme.proofs.FirstLemmas.{first_pass, first_stop}
use Rattle.vpf_theme.proofs.agreeing.check_entries.Goals as goal

pub loop-i-preserved : goal.loop-i-preserved
loop-i-preserved c = record {
  left = first_pass (lines_at c.args.theme.now (col c.args.column.now) (map view c.args.cells.now)) c.loop-i.i (length c.args.theme.now.entries) _ (omega arith) c.loop-i.invariant.left c.in_ok-check_entry.ensures.first;
  ahead = c.in_ok-check_entry.ensures.ahead;
}

pub returns-in_err-check_entry : goal.returns-in_err-check_entry
returns-in_err-check_entry c =
    let p = err_from_is_err_and c.from_residual-in_err-check_entry.result c.from_residual-in_err-check_entry.ensures.1 in
    rw (p.1, p.2) (first_stop (lines_at c.args.theme.now (col c.args.column.now) (map view c.args.cells.now)) c.loop-i.i (length c.args.theme.now.entries) _ _ (omega arith) c.loop-i.invariant.left c.in_err-check_entry.ensures.first)
