-- The column that a word names.
use Rattle.std.specs.Prelude.{◌≡◌, ℕ, List, Option, None, Some, slice_get}
use Rattle.vpf_head.specs.Head.{Col, place_of}
use Rattle.vpf_replies.specs.Answer.{Answer}
use Rattle.vpf_replies.specs.Refusals.{AbsentColumn, refusal_answer}

-- no column has the name
abbrev pub absent_answer : List ℕ → Answer
absent_answer name = refusal_answer (AbsentColumn name)

-- what is answered over the column at a place
abbrev pub on_place : (ℕ → Col → Answer) → List ℕ → ℕ → Option Col → Answer
on_place over name c None = absent_answer name
on_place over name c (Some column) = over c column

abbrev pub on_found : (ℕ → Col → Answer) → List ℕ → List Col → Option ℕ → Answer
on_found over name columns None = absent_answer name
on_found over name columns (Some c) = on_place over name c (slice_get columns c)

-- what is answered over the column of this name and its place, counted from 0, or that there is none
abbrev pub on_column : (ℕ → Col → Answer) → List ℕ → List Col → Answer
on_column over name columns = on_found over name columns (place_of name columns)

-- the column of a name stands at this place, and what is answered over the name is answered over it
pub record IsAt (name : List ℕ) (columns : List Col) (c : ℕ) : Type 0 where
  pub column : Col
  pub there : slice_get columns c ≡ Some column
  pub over : (over : ℕ → Col → Answer) → on_column over name columns ≡ over c column
