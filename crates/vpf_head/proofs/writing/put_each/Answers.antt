use Rattle.std.proofs.Common.{◌<◌, ◌++◌, ℕ, List, length, sym, ap, ◌∙◌, append_assoc, rules, arith}
use Rattle.std.proofs.lemmas.Grind.{common_steps}
use Rattle.std.proofs.lemmas.List.{append-nil}
use Rattle.vpf_head.proofs.Entries.{columns_step_at, columns_end}
use Rattle.vpf_head.proofs.writing.put_each.Goals as goal

pub loop-column-preserved : goal.loop-column-preserved
loop-column-preserved c =
    let lt : c.loop-column.column-index < length c.args.columns.now = omega arith in
    record {
      done = rw (c.in_ok-put_column.ensures.ok, append_assoc) (c.loop-column.invariant.done ∙ ap (λ (x : List ℕ). c.loop-column.out.items ++ x) (columns_step_at _ _ _ lt));
      kept = search (rules, common_steps);
    }

pub returns-clause-ok : goal.returns-clause-ok
returns-clause-ok c =
    let end = columns_end c.args.columns.now c.loop-column.column-index (omega arith) in
    sym (c.loop-column.invariant.done ∙ rw end (append-nil c.loop-column.out.items))
