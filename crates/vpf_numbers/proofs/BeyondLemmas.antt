-- The parts of another tile, by the tables around and by how many rows the other tile has.
use Rattle.std.proofs.Common.{◌≡◌, ℕ, Bool, Option, Some, None, Result, refl, subst}
use Rattle.std.specs.Prelude.{is_some}
use Rattle.std.specs.Option.{option_map, unwrap_or}
use Rattle.vpf_value.specs.Values.{Value}
use Rattle.vpf_findings.specs.declared.finding.TableName.{TableName}
use Rattle.vpf_findings.specs.declared.finding.Finding.{Finding}
use Rattle.vpf_findings.specs.Findings.{Disagreement}
use Rattle.vpf_findings.specs.Firsts.{◌or◌, Finds}
use Rattle.vpf_prims.specs.declared.placing.TableAt.{TableAt}
use Rattle.vpf_prims.specs.Columns.{RoleAt}
use Rattle.vpf_prims.specs.Lines.{cell_range_line}
use Rattle.vpf_prims.specs.References.{reference_in}
use Rattle.vpf_prims.specs.Reading.{PrimitiveTables}
use Rattle.vpf_numbers.specs.Around.{Around, count_in_tile, grid_named, rows_in, rows_there, tables_around}
use Rattle.vpf_numbers.specs.RowLines.{beyond_line}
use Rattle.vpf_numbers.specs.Inner.Beyond.{beyond_there, rows_around}

there_is : (f : PrimitiveTables → ℕ) (tables : Option PrimitiveTables) → is_some (option_map f tables) ≡ is_some tables
there_is f None = refl
there_is f (Some tables) = refl

there_are : (f : PrimitiveTables → ℕ) (tables : Option PrimitiveTables) → unwrap_or (option_map f tables) 0 ≡ count_in_tile f tables
there_are f None = refl
there_are f (Some tables) = refl

-- the two are one line
pub beyond_same : (at : TableAt) (A : Around) (name : TableName) (low k : ℕ) (column : RoleAt) (cell : Value) (allowed : Bool) (tile ext : Option ℕ)
    → beyond_there at (rows_there A name tile) low k column cell allowed tile ext ≡ beyond_line at A (rows_around A name) low k column cell allowed tile ext
beyond_same at A name low k column cell allowed None None = refl
beyond_same at A name low k column cell allowed None (Some n) = refl
beyond_same at A name low k column cell allowed (Some t) None = refl
beyond_same at A name low k column cell allowed (Some t) (Some n) =
    let rows = λ (tables : PrimitiveTables). rows_in (grid_named name tables) in
    rw (there_is rows (tables_around A t), there_are rows (tables_around A t)) refl

-- a line that says nothing, and then a call that tells the next
pub finds_later : {V : Type 0} (r : Result V Finding) (a b : Option Disagreement) → a ≡ None → Finds r b → Finds r (a or b)
finds_later r a b none finds = rw none finds

-- the second of three lines is what is found, where the first says nothing
pub found_second : (a b later : Option Disagreement) (found : Disagreement) → a ≡ None → b ≡ Some found → (a or b or later) ≡ Some found
found_second a b later found none is = rw (none, is) refl

-- the lines on a reference, by what the calls on its parts tell of its cell
pub cross_told : {V : Type 0} (r : Result V Finding) (at : TableAt) (A : Around) (name : TableName) (low last k : ℕ) (column : RoleAt) (allowed : Value → Bool) (seen cell : Value) (there : Option ℕ) (may : Bool)
    → seen ≡ cell → there ≡ rows_there A name (reference_in seen).tile → may ≡ allowed seen
    → cell_range_line at 1 last k column seen ≡ None
    → Finds r (beyond_there at there low k column seen may (reference_in seen).tile (reference_in seen).ext)
    → Finds r (cell_range_line at 1 last k column cell or beyond_line at A (rows_around A name) low k column cell (allowed cell) (reference_in cell).tile (reference_in cell).ext)
cross_told r at A name low last k column allowed seen cell there may same is-there is-may none told =
    let line = λ (value : Value). beyond_line at A (rows_around A name) low k column value (allowed value) (reference_in value).tile (reference_in value).ext in
    let one : beyond_there at there low k column seen may (reference_in seen).tile (reference_in seen).ext ≡ line seen =
    rw (is-there, is-may) (beyond_same at A name low k column seen (allowed seen) (reference_in seen).tile (reference_in seen).ext) in
    subst (λ (value : Value). Finds r (cell_range_line at 1 last k column value or line value)) same (finds_later r _ _ none (subst (λ (found : Option Disagreement). Finds r found) one told))
