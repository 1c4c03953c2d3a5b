use Rattle.std.proofs.Common.{arith, ◌∙◌, ◌≡◌, Some}
use Rattle.std.proofs.lemmas.List.{take_rest}
use Rattle.vpf_table.specs.Inner.Widths.{width_of}
use Rattle.vpf_table.proofs.OneSpelling.{read_is_canonical}
use Rattle.vpf_table.proofs.ReadRows.{read_rows_fit}
use Rattle.vpf_table.proofs.fixed_rows.fixed_rows.Goals as goal

pub returns-clause-bytes : goal.returns-clause-bytes
returns-clause-bytes c =
    let head = c.args.header.now in
    let bytes = c.args.bytes.now in
    let width : width_of head.columns ≡ Some c.in_ok-width.width = let was = c.in_ok-width.was in rw was at c.requires.fixed in
    take_rest bytes c.args.at ∙ read_is_canonical c.cells_and_headers.ensures c.fitting_is_written.ensures.alone head.order head.columns bytes c.args.at c.in_ok-width.width (λ i. omega (arith, c.type_inv.bytes i)) c.requires.inside width c.requires.read

pub returns-clause-fits : goal.returns-clause-fits
returns-clause-fits c =
    let head = c.args.header.now in
    read_rows_fit c.cells_and_headers.ensures c.spelled_fits.ensures head.order head.columns c.args.bytes.now c.args.at (λ i. omega (arith, c.type_inv.bytes i)) c.requires.inside c.len-columns.ensures.sound.counts c.requires.read
