-- What a selection comes to.
use Rattle.std.proofs.Common.{◌≡◌, ℕ, List, Option, None, Some, Ok, refl, ap, ◌∙◌}
use Rattle.vpf_value.specs.Values.{Value}
use Rattle.vpf_head.specs.Head.{Col}
use Rattle.vpf_table.specs.Grid.{Grid}
use Rattle.vpf_theme.specs.Agreeing.{scan_of}
use Rattle.vpf_theme.specs.Entries.{Theme}
use Rattle.vpf_theme.specs.Findings.{cells_of}
use Rattle.vpf_select.specs.Selecting.{selected}
use Rattle.vpf_select.specs.Words.{value_in}
use Rattle.vpf_table_commands.specs.declared.selecting.RowsRequest.{RowsRequest}
use Rattle.vpf_replies.specs.Answer.{Answer, done}
use Rattle.vpf_table_commands.specs.Rows.{found_text, listed_answer, on_selected, on_value, scan_answer}

on_value_there : (over : Value → Answer) (request : RowsRequest) (value : Option Value) (v : Value) → Some v ≡ value → on_value over request value ≡ over v
on_value_there over request value v e = rw (← e) refl

-- an index is asked for the value that the word has
pub listed_there : (request : RowsRequest) (g : Grid) (c : ℕ) (column : Col) (name : List ℕ) (t : Theme) (v : Value) → Some v ≡ value_in column.kind column.count request.value
    → listed_answer request g c column name t ≡ on_selected name column.kind (cells_of g c) v (selected (Some t) v (cells_of g c))
listed_there request g c column name t v e = on_value_there (λ value. on_selected name column.kind (cells_of g c) value (selected (Some t) value (cells_of g c))) request (value_in column.kind column.count request.value) v e

-- without an index the value that the word has is scanned for
pub scanned_there : (request : RowsRequest) (g : Grid) (c : ℕ) (column : Col) (v : Value) (rows : List ℕ) → Some v ≡ value_in column.kind column.count request.value → selected None v (cells_of g c) ≡ Ok rows
    → scan_answer request g c column ≡ done (found_text rows)
unfolding selected
scanned_there request g c column v rows e s =
    let same : scan_of v (cells_of g c) ≡ rows = cc s in
    on_value_there (λ value. done (found_text (scan_of value (cells_of g c)))) request (value_in column.kind column.count request.value) v e ∙ ap (λ (x : List ℕ). done (found_text x)) same
