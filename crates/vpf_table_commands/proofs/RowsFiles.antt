-- The answer of `rows`, from file to file.
use Rattle.std.proofs.Common.{◌≡◌, ℕ, List, Option, Result, Ok, true, refl, subst, sym}
use Rattle.vpf_source.specs.Files.{Files}
use Rattle.vpf_head.specs.Head.{Col, varies_in}
use Rattle.vpf_table.specs.Grid.{Grid}
use Rattle.vpf_table.specs.Reading.{table_of}
use Rattle.vpf_replies.specs.declared.halting.Halt.{Halt}
use Rattle.vpf_replies.specs.Answer.{Answer}
use Rattle.vpf_replies.specs.Columns.{IsAt}
use Rattle.vpf_replies.specs.Halting.{ComesTo}
use Rattle.vpf_table_commands.specs.declared.selecting.RowsRequest.{RowsRequest}
use Rattle.vpf_table_commands.specs.Rows.{by_theme, column_answer, grid_rows_answer, rows_bytes_answer, theme_file, varying_answer}

-- answers that are equal are come to alike
same_answer : (a b : Answer) (result : Result Answer Halt) → a ≡ b → ComesTo (λ answer. answer ≡ a) result → ComesTo (λ answer. answer ≡ b) result
same_answer a b result e h = subst (λ (x : Answer). ComesTo (λ answer. answer ≡ x) result) e h

-- the index of this name is the one that the column names
pub of_column : (result : Result Answer Halt) (files : Files) (request : RowsRequest) (g : Grid) (c : ℕ) (column : Col) (theme : Option (List ℕ)) → theme ≡ theme_file request column
    → ComesTo (λ answer. answer ≡ by_theme files request g c column theme) result → ComesTo (λ answer. answer ≡ column_answer files request g c column) result
of_column result files request g c column theme e h = subst (λ (t : Option (List ℕ)). ComesTo (λ answer. answer ≡ by_theme files request g c column t) result) e h

-- the column is the one of the name
pub of_table : (result : Result Answer Halt) (files : Files) (request : RowsRequest) (g : Grid) (c : ℕ) (at : IsAt request.column g.head.columns c)
    → ComesTo (λ answer. answer ≡ column_answer files request g c at.column) result → ComesTo (λ answer. answer ≡ grid_rows_answer (column_answer files request) request g) result
of_table result files request g c at h = same_answer (column_answer files request g c at.column) (grid_rows_answer (column_answer files request) request g) result (sym (at.over (column_answer files request g))) h

-- the table was read from these bytes, and its rows vary
pub of_varying : (result : Result Answer Halt) (files : Files) (request : RowsRequest) (bytes there : List ℕ) (g : Grid) → there ≡ bytes → table_of bytes ≡ Ok g → varies_in g.head.columns ≡ true
    → ComesTo (λ answer. answer ≡ varying_answer (column_answer files request) files request there g) result → ComesTo (λ answer. answer ≡ rows_bytes_answer files request bytes) result
of_varying result files request bytes there g same read varies h =
    same_answer (varying_answer (column_answer files request) files request there g) (rows_bytes_answer files request bytes) result (rw (same, read, varies) refl) h
