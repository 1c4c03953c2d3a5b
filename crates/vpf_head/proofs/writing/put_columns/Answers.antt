use Rattle.std.proofs.Common.{◌≡◌, length, sym, ◌∙◌, append_assoc, rules, arith}
use Rattle.std.proofs.lemmas.Grind.{common_steps}
use Rattle.std.proofs.lemmas.List.{append-nil}
use Rattle.indexmap.specs.IndexMap.{values, index_map_len}
use Rattle.vpf_head.proofs.Entries.{columns_step, columns_end, length-values}
use Rattle.vpf_head.proofs.writing.put_columns.Goals as goal

pub loop-c-preserved : goal.loop-c-preserved
loop-c-preserved c =
    let step = columns_step (values c.args.columns.now) c.loop-c.c c.column_of.result.now c.column_of.ensures in
    record {
      done = rw (c.in_ok-put_column.ensures.ok, append_assoc, ← step) c.loop-c.invariant.done;
      kept = search (rules, common_steps);
    }

pub returns-clause-ok : goal.returns-clause-ok
returns-clause-ok c =
    let many : length (values c.args.columns.now) ≡ index_map_len c.args.columns.now = length-values c.args.columns.now.entries in
    let end = columns_end (values c.args.columns.now) c.loop-c.c (omega arith) in
    sym (c.loop-c.invariant.done ∙ rw end (append-nil c.loop-c.out.items))
