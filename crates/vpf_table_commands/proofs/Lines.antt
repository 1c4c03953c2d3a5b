-- Lines and cells, put one after another.
use Rattle.std.proofs.Common.{◌≡◌, ℕ, suc, ◌+◌, List, ◌∷◌, ◌++◌, drop, Some, codes, append_assoc, add-one}
use Rattle.std.specs.Prelude.{slice_get}
use Rattle.vpf_base.proofs.Lists.{next_item}
use Rattle.vpf_value.specs.Values.{Value}
use Rattle.vpf_head.specs.Head.{Col}
use Rattle.vpf_table.specs.Grid.{Row}
use Rattle.vpf_findings.specs.Text.Cells.{cell_text}
use Rattle.vpf_table_commands.specs.Show.{column_line, column_lines, cells_text, row_line, row_lines}

pub column_put : (text : List ℕ) (cs : List Col) (i : ℕ) (c : Col) → slice_get cs i ≡ Some c → (text ++ column_line (i + 1) c) ++ column_lines (i + 1) (drop (i + 1) cs) ≡ text ++ column_lines i (drop i cs)
column_put text cs i c e = rw (next_item cs i c e, add-one i) (append_assoc text (column_line (suc i) c) (column_lines (suc i) (drop (suc i) cs)))

pub cell_put : (text new : List ℕ) (cs : List Col) (i : ℕ) (c : Col) (v : Value) (vs rest : Row) → slice_get cs i ≡ Some c → rest ≡ v ∷ vs → new ≡ (text ++ codes " | ") ++ cell_text c.kind v
    → new ++ cells_text (drop (i + 1) cs) vs ≡ text ++ cells_text (drop i cs) rest
cell_put text new cs i c v vs rest e f g = rw (g, f, next_item cs i c e) (simp append_assoc)

pub row_put : (text : List ℕ) (cs : List Col) (number : ℕ) (row : Row) (rows rest : List Row) → rest ≡ row ∷ rows → (text ++ row_line cs (number + 1) row) ++ row_lines cs (number + 1) rows ≡ text ++ row_lines cs number rest
row_put text cs number row rows rest e = rw (e, add-one number) (append_assoc text (row_line cs (suc number) row) (row_lines cs (suc number) rows))
