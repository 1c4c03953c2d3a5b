use Rattle.std.proofs.Common.{◌≡◌, ◌∙◌, length, ap, sym, arith}
use Rattle.std.proofs.lemmas.List.Elements.{All-rest}
use Rattle.vpf_table.specs.Grid.{Row}
use Rattle.vpf_findings.specs.Inner.FirstLaws.{rows_pass}
use Rattle.vpf_prims.specs.Columns.{role_at}
use Rattle.vpf_prims.specs.Lines.{id_line}
use Rattle.vpf_features.specs.Lines.{feature_at}
use Rattle.vpf_features.proofs.rows.check_ids.Goals as goal

pub loop-row-preserved : goal.loop-row-preserved
loop-row-preserved c =
    let i = c.loop-row.invariant in
    let row = c.in-Some.row in
    let steps = c.in-Some.ensures.steps in
    record {
      left = sym (rows_pass (λ k row. id_line feature_at k (role_at c.args.column.now) row) c.loop-row.k row c.loop-row.row-iterator c.next.new.self steps c.in_ok-check_id.ensures) ∙ i.left;
      width = All-rest (λ (r : Row). length r ≡ length c.args.table.now.head.columns) row c.next.new.self c.loop-row.row-iterator steps i.width;
      count = omega (arith, i.count, ap length steps);
    }
