use Rattle.std.proofs.Common.{◌∙◌, ℕ, List, ap, sym}
use Rattle.std.specs.Prelude.{Ok}
use Rattle.vpf_value.specs.Values.{Value, view}
use Rattle.vpf_theme.specs.Agreeing.{scan_of}
use Rattle.vpf_theme.specs.Findings.{cells_of}
use Rattle.vpf_feature_commands.proofs.classes.ScanLemmas.{none_refused, scanned_rows}
use Rattle.vpf_feature_commands.proofs.classes.selecting.scanned.Goals as goal

pub unreachable-requires : goal.unreachable-requires
unreachable-requires c =
    none_refused c.in-Err-Disagrees.field-0 c.in-Err-Disagrees.field-0-0 (view c.cell.result) (cells_of c.args.table.now c.args.c) c.in-Err-Disagrees.field-0-is
    c.in-Err-Disagrees.ensures.value

pub returns-in-Ok-clause-value : goal.returns-in-Ok-clause-value
returns-in-Ok-clause-value c column =
    let cells = cells_of c.args.table.now c.args.c in
    ap (λ (v : Value). Ok (scan_of v cells)) (sym c.cell.ensures)
    ∙ ap (λ (rows : List ℕ). Ok rows) (scanned_rows (view c.cell.result) cells c.in-Ok.rows.items c.in-Ok.ensures.value)
