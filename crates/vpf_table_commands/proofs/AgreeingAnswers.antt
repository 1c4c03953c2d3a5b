-- An index that agrees with its column answers as a plain scan.
use Rattle.std.proofs.Common.{◌≡◌, ◌∙◌, ℕ, ◌<◌, List, Option, None, Some, Ok, length, refl, ap}
use Rattle.std.specs.Option.{option_or}
use Rattle.std.proofs.lemmas.List.{length-map}
use Rattle.vpf_value.specs.Values.{Value}
use Rattle.vpf_head.specs.Head.{Col}
use Rattle.vpf_findings.specs.Findings.{Disagreement}
use Rattle.vpf_table.specs.Grid.{Grid}
use Rattle.vpf_theme.specs.Agreeing.{AgreesAt, AgreesWithColumn, scan_of}
use Rattle.vpf_theme.specs.Entries.{Theme}
use Rattle.vpf_theme.specs.Findings.{cells_of, first_finding, fits_line}
use Rattle.vpf_select.specs.Selecting.{selected}
use Rattle.vpf_select.specs.Words.{value_in}
use Rattle.vpf_table_commands.specs.declared.selecting.RowsRequest.{RowsRequest}
use Rattle.vpf_replies.specs.Answer.{Answer, done}
use Rattle.vpf_table_commands.specs.Rows.{IndexAnswersAsTheScan}
use Rattle.vpf_table_commands.specs.Rows.{found_text, listed_answer, on_selected, on_value, unless_finding}

-- what no law says first, its first part doesn't say
first_none : (a b : Option Disagreement) → option_or a b ≡ None → a ≡ None
first_none None b e = refl
first_none (Some d) b e = e

fits_none : (t : Theme) (column : Col) (cells : List Value) → first_finding t column cells ≡ None → fits_line t column (length cells) ≡ None
unfolding first_finding
fits_none t column cells e = first_none (fits_line t column (length cells)) _ e

on_values : (f h : Value → Answer) (request : RowsRequest) (value : Option Value) → ((v : Value) → f v ≡ h v) → on_value f request value ≡ on_value h request value
on_values f h request None e = refl
on_values f h request (Some v) e = e v

pub answers_as_the_scan : ((t : Theme) (column : Col) (cells : List Value) → AgreesWithColumn t column cells → first_finding t column cells ≡ None)
    → ((t : Theme) (grid : Grid) (c : ℕ) (v : Value) → c < length grid.head.columns → AgreesAt t grid c → selected (Some t) v (cells_of grid c) ≡ Ok (scan_of v (cells_of grid c)))
    → IndexAnswersAsTheScan
answers_as_the_scan none scans request g c column name t inside there agrees =
    let cells = cells_of g c in
    let len : length cells ≡ length g.rows = simp length-map in
    let fits : fits_line t column (length g.rows) ≡ None = rw (← len) (fits_none t column cells (none t column cells (agrees column there))) in
    ap (unless_finding name (listed_answer request g c column name t)) fits
    ∙ on_values (λ value. on_selected name column.kind cells value (selected (Some t) value cells)) (λ value. done (found_text (scan_of value cells))) request (value_in column.kind column.count request.value)
    (λ v. ap (on_selected name column.kind cells v) (scans t g c v inside agrees))
