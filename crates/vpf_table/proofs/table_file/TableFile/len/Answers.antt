use Rattle.std.proofs.Common.{arith, refl}
use Rattle.vpf_base.specs.Limits.{most_rows}
use Rattle.vpf_table.proofs.RowsFew.{rows_few}
use Rattle.vpf_table.proofs.table_file.TableFile.len.Goals as goal

pub returns-clause-most : goal.returns-clause-most
returns-clause-most c =
    let t = c.self.inside in
    omega (arith, c.self.invariant.count, rows_few most_rows t.header.value.order t.header.value.columns t.bytes.now t.start (rw c.self.invariant.read refl))
