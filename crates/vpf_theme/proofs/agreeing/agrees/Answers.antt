use Rattle.std.proofs.lemmas.Result.{on_ok_weaker}
use Rattle.vpf_theme.specs.Findings.{cells_of}
use Rattle.vpf_theme.proofs.AgreeLemmas.{nothing_found}
use Rattle.vpf_theme.proofs.agreeing.agrees.Goals as goal

pub returns-clause-agrees : goal.returns-clause-agrees
returns-clause-agrees c =
    let t = c.args.theme.now in
    let grid = c.args.table.now in
    on_ok_weaker c.check_column.result (λ h column is. c.agreement_is_no_finding.ensures.agrees t column (cells_of grid c.args.column) c.rows-rows.ensures.listed (h column is)) (nothing_found (Unit {0}) c.check_column.result t grid c.args.column c.check_column.ensures)
