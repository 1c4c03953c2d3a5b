-- What is answered over the column of a name.
use Rattle.std.proofs.Common.{[], ◌≡◌, ℕ, ◌<◌, List, Option, None, Some, length, refl, sym}
use Rattle.std.proofs.lemmas.List.{length-map}
use Rattle.std.proofs.lemmas.List.Quantifiers.{position-Some}
use Rattle.std.proofs.lemmas.Option.{slice_get_cases}
use Rattle.std.specs.Prelude.{IfSome, slice_get}
use Rattle.vpf_head.specs.Head.{Col, names, place_of}
use Rattle.vpf_head.specs.Folding.{same_name}
use Rattle.vpf_replies.specs.Answer.{Answer}
use Rattle.vpf_replies.specs.Columns.{IsAt, on_column, on_found}
use Rattle.vpf_replies.specs.Inner.ColumnLaws.{column_or_past}

there : (over : ℕ → Col → Answer) (name : List ℕ) (columns : List Col) (c : ℕ) (column : Col) (place : Option ℕ) → place ≡ Some c → slice_get columns c ≡ Some column → on_found over name columns place ≡ over c column
there over name columns c column place e f = rw (e, f) refl

pub column_there : (over : ℕ → Col → Answer) (name : List ℕ) (columns : List Col) (c : ℕ) (column : Col) → Some c ≡ place_of name columns → slice_get columns c ≡ Some column → on_column over name columns ≡ over c column
column_there over name columns c column e f = there over name columns c column (place_of name columns) (sym e) f

column_within : (columns : List Col) (c : ℕ) → c < length columns → (column : Col) × (slice_get columns c ≡ Some column)
column_within columns c h = column_or_past columns c h (slice_get_cases columns c).1

place_within : (name : List ℕ) (columns : List Col) (c : ℕ) → place_of name columns ≡ Some c → c < length columns
place_within name columns c e =
    let len : length (names columns) ≡ length columns = simp length-map in
    let first = position-Some (same_name name) (names columns) c [] e in
    let inside : c < length (names columns) = first.0 in
    rw len at inside

-- the column of a name that is found stands at its place
pub found_at : (name : List ℕ) (columns : List Col) (place : Option ℕ) → place ≡ place_of name columns → IfSome place (IsAt name columns)
found_at name columns None e = tt
found_at name columns (Some c) e =
    let at = column_within columns c (place_within name columns c (sym e)) in
    record { column = at.0; there = at.1; over = λ over. column_there over name columns c at.0 e at.1 }
