-- What is printed where an index lists a row whose cell isn't the value.
use Rattle.std.specs.Prelude.{ℕ, List, codes}
use Rattle.std.specs.Fmt.{decimal}
use Rattle.vpf_triplet.specs.declared.kinds.Kind.{Kind}
use Rattle.vpf_value.specs.Values.{Value}
use Rattle.vpf_findings.specs.Text.Texts.{◌&◌}
use Rattle.vpf_findings.specs.Text.Bytes.{printed}
use Rattle.vpf_findings.specs.Text.Cells.{cell_text}

-- where an index lists a row for a value that it hasn't: the index's file and the row
abbrev pub wrong_place_text : List ℕ → ℕ → List ℕ
wrong_place_text name row = codes "refused index-disagrees " & printed name & codes " row " & decimal row

-- the row's cell, and the value
abbrev pub both_text : Kind → Value → Value → List ℕ
both_text kind cell value = cell_text kind cell & codes ", " & cell_text kind value

-- the line: where it is, the row's cell and the value
abbrev pub wrong_row_text : List ℕ → Kind → ℕ → Value → Value → List ℕ
wrong_row_text name kind row cell value = wrong_place_text name row & codes ": " & both_text kind cell value & codes "\n"
