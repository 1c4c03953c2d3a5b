use Rattle.vpf_base.specs.Limits.{most_rows}
use Rattle.vpf_table.specs.Grid.{Grid}
use Rattle.vpf_table.specs.Reading.{rows_at}
use Rattle.vpf_table.specs.Walking.{rows_of}
use Rattle.vpf_table.proofs.OpenLemmas.{table_read}
use Rattle.vpf_table.proofs.Owning.{given_own}
use Rattle.vpf_table.proofs.table_file.TableFile.own_index.Goals as goal

pub returns-clause-exact : goal.returns-clause-exact
returns-clause-exact c =
    let t = c.self.inside in
    let rows = rows_of (rows_at most_rows t.header.value.order t.header.value.columns t.bytes.now t.start) in
    let g : Grid = record { head = t.header.value; rows = rows } in
    let table = table_read t.bytes.now t.header.value t.start rows c.self.invariant.begun c.self.invariant.read in
    rw (← c.self.view_is) (given_own t.bytes.now g c.args.index.now c.own_entries.result table (rw (← c.self.view_is) at c.own_entries.ensures.exact))
