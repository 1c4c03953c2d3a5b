-- Rows that are read one after another.
use Rattle.std.proofs.Common.{◌≡◌, ℕ, ◌+◌, Option, None, List, ◌∷◌, sym, ◌∙◌}
use Rattle.vpf_table.specs.Firsts.{◌or◌, first_of_rows}
use Rattle.vpf_table.specs.FirstLaws.{rows_pass}

-- one more row has no finding
pub lines_left : {F R : Type 0} (lines : ℕ → R → Option F) (k : ℕ) (row : R) (rows rest : List R) (whole : Option F) → rows ≡ row ∷ rest → lines (k + 1) row ≡ None → first_of_rows lines (k + 1) rows ≡ whole
    → first_of_rows lines ((k + 1) + 1) rest ≡ whole
lines_left lines k row rows rest whole steps none left = sym (rows_pass lines k row rows rest steps none) ∙ left

-- neither of two lines says anything
pub or_silent : {F : Type 0} (a b : Option F) → a ≡ None → b ≡ None → (a or b) ≡ None
or_silent a b none silent = rw none silent

-- the first line says nothing, and then the second says what it says
pub or_later : {F : Type 0} (a b : Option F) (x : Option F) → a ≡ None → b ≡ x → (a or b) ≡ x
or_later a b x none is = rw none is
