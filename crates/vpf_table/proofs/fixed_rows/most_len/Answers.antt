use Rattle.std.proofs.Common.{arith}
use Rattle.vpf_table.proofs.ReadRows.{read_rows_short}
use Rattle.vpf_table.proofs.fixed_rows.most_len.Goals as goal

pub returns : goal.returns
returns c =
    let h = c.args.header.now in
    let written = c.fitting_is_written.ensures in
    λ p. read_rows_short c.cells_and_headers.ensures written.shortest written.either h.order p h.columns c.args.bytes.now c.args.at (λ i. omega (arith, c.type_inv.bytes i)) c.requires.inside c.requires.read
