use Rattle.vpf_base.specs.Limits.{most_rows}
use Rattle.vpf_table.specs.Reading.{rows_at}
use Rattle.vpf_table.proofs.OpenLemmas.{rows_fail, counted_ok, opened}
use Rattle.vpf_table.proofs.table_file.table_behind.Goals as goal

pub returns-in-Err-clause-exact : goal.returns-in-Err-clause-exact
returns-in-Err-clause-exact c = rows_fail c.args.bytes.now c.args.header.value c.args.start c.in-Err.place c.requires.begun (rw c.as_ref-2.ensures at c.in-Err.ensures)

pub invariant_of-result : goal.invariant_of-result
invariant_of-result c =
    let h = c.args.header.value in
    let rows = counted_ok (rows_at most_rows h.order h.columns c.args.bytes.now c.args.start) c.in-Ok.rows (rw c.as_ref-2.ensures at c.in-Ok.ensures) in
    record {
      begun = c.requires.begun;
      read = rows.0;
      count = rows.1;
      fixed = rw c.as_ref.ensures at c.row_width-width.ensures.found;
      known = rw c.as_ref.ensures at c.row_width-width.ensures.known;
      inside = c.requires.inside;
    }

pub returns-clause-exact : goal.returns-clause-exact
returns-clause-exact c = opened c.args.bytes.now c.args.header.value c.args.start c.in-Ok.rows c.requires.begun (rw c.as_ref-2.ensures at c.in-Ok.ensures)
