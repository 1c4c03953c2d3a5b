-- Cells of rows with new values, read by the names of their columns.
use Rattle.std.proofs.Common.{[], ℕ, List, position, ◌≡◌, ◌<◌, false, length, get_or, slice_get, Option, Some, None, refl, sym, ap, ◌∙◌, arith}
use Rattle.vpf_value.specs.Values.{Value, Nothing}
use Rattle.vpf_head.specs.Head.{Col, names, place_of}
use Rattle.vpf_write.specs.Revise.Revising.{NewValue, value_for, revised, revised_column, revised_value, with_kinds}
use Rattle.vpf_primitive_tables.specs.Inner.TileReading.ChangeLaws.{said_anew as said, said_of, found}
use Rattle.std.specs.Option.{option_and_then, unwrap_or}
use Rattle.std.proofs.lemmas.Bool.{false≢true}
use Rattle.std.proofs.lemmas.List.{length-map}
use Rattle.std.proofs.lemmas.List.Quantifiers.{position-Some}
use Rattle.vpf_head.specs.Folding.{same_name}
use Rattle.vpf_table.specs.Grid.{Row}
use Rattle.vpf_write.specs.declared.revise.changes.NewKind.{NewKind}
use Rattle.vpf_prims.specs.Columns.{column_of}
use Rattle.vpf_prims.specs.Reading.{mark_at, named_cell, natural_in}
use Rattle.vpf_prims.specs.References.{cell_at}
use Rattle.vpf_prims.specs.Roles.{Role}
use Rattle.vpf_prims.specs.Suiting.{SuitsRole}
use Rattle.vpf_primitive_tables.specs.Inner.TileReading.EachLaws.{get_or_each}
use Rattle.vpf_base.proofs.Lists.{each_kept}

-- the new values in the columns of these names
abbrev pub values_said : List Col → List (List ℕ × Value) → List NewValue
values_said columns pairs = said (λ c v. record { column = c; value = v }) columns pairs

-- the one of a column is that which is said under its name
pub value_found : (columns : List Col) (name : List ℕ) (c : ℕ) → place_of name columns ≡ Some c → (pairs : List (List ℕ × Value))
    → value_for c (values_said columns pairs) ≡ said_of name pairs
value_found columns name c e pairs =
    found (λ c v. record { column = c; value = v }) (λ (new : NewValue). new.column) (λ (new : NewValue). new.value) (λ c v. refl) (λ c v. refl)
    columns name c e pairs

-- names stand where they stood before the columns had new kinds
pub place_kept : (kinds : List NewKind) (name : List ℕ) (columns : List Col) → place_of name (with_kinds kinds columns) ≡ place_of name columns
place_kept kinds name columns =
    ap (position (same_name name)) (each_kept (λ at. revised_column kinds at.0 at.1) (λ (column : Col). column.name) 0 columns (λ c column. refl))

-- where a column stands that may not be left out
pub record StandsInRow (columns : List Col) (name : List ℕ) : Type 0 where
  pub at : ℕ
  pub place : place_of name columns ≡ Some at
  pub within : at < length columns

-- a place of a name is one of the columns
place_inside : (columns : List Col) (name : List ℕ) (c : ℕ) → place_of name columns ≡ Some c → c < length columns
place_inside columns name c e =
    omega (arith, (position-Some (same_name name) (names columns) c [] e).0, length-map columns (λ (column : Col). column.name))

-- the column of a role that may not be left out stands somewhere
stands_by : (columns : List Col) (role : Role) → role.optional ≡ false → (o : Option ℕ) → place_of role.name columns ≡ o
    → SuitsRole role (option_and_then (slice_get columns) o) → StandsInRow columns role.name
stands_by columns role must None e s = absurd (false≢true (sym must ∙ s))
stands_by columns role must (Some c) e s = record { at = c; place = e; within = place_inside columns role.name c e }

pub stands_in_row : (columns : List Col) (role : Role) → role.optional ≡ false → SuitsRole role (column_of columns role.name) → StandsInRow columns role.name
stands_in_row columns role must s = stands_by columns role must (place_of role.name columns) refl s

-- a cell of a revised row
pub cell_revised : (columns : List Col) (row : Row) (name : List ℕ) (pairs : List (List ℕ × Value)) (c : ℕ) → place_of name columns ≡ Some c
    → length row ≡ length columns → get_or (revised (values_said columns pairs) row) c Nothing ≡ unwrap_or (said_of name pairs) (get_or row c Nothing)
cell_revised columns row name pairs c e whole =
    let inside : c < length columns = place_inside columns name c e in
    get_or_each (λ at. revised_value (values_said columns pairs) at.0 at.1) 0 c c row Nothing Nothing (omega arith) (omega arith)
    ∙ ap (λ o. unwrap_or o (get_or row c Nothing)) (value_found columns name c e pairs)

-- the cell in the column of a role that has a new value
pub cell_new : (columns : List Col) (role : Role) → role.optional ≡ false → SuitsRole role (column_of columns role.name) → (kinds : List NewKind)
    (pairs : List (List ℕ × Value)) (row : Row) → length row ≡ length columns → (v : Value) → said_of role.name pairs ≡ Some v
    → named_cell (with_kinds kinds columns) role.name (revised (values_said columns pairs) row) ≡ v
cell_new columns role must s kinds pairs row whole v is =
    let k : StandsInRow columns role.name = stands_in_row columns role must s in
    ap (cell_at (revised (values_said columns pairs) row)) (place_kept kinds role.name columns ∙ k.place)
    ∙ cell_revised columns row role.name pairs k.at k.place whole ∙ ap (λ o. unwrap_or o (get_or row k.at Nothing)) is

-- a mark that has no new value stays
mark_by : (columns : List Col) (name : List ℕ) (pairs : List (List ℕ × Value)) (row : Row) → length row ≡ length columns → said_of name pairs ≡ None
    → (o : Option ℕ) → place_of name columns ≡ o → mark_at (revised (values_said columns pairs) row) o ≡ mark_at row o
mark_by columns name pairs row whole is None e = refl
mark_by columns name pairs row whole is (Some c) e =
    ap natural_in (cell_revised columns row name pairs c e whole ∙ ap (λ o. unwrap_or o (get_or row c Nothing)) is)

-- a mark that has no new value
pub mark_kept : (columns : List Col) (name : List ℕ) (kinds : List NewKind) (pairs : List (List ℕ × Value)) (row : Row) → length row ≡ length columns
    → said_of name pairs ≡ None
    → mark_at (revised (values_said columns pairs) row) (place_of name (with_kinds kinds columns)) ≡ mark_at row (place_of name columns)
mark_kept columns name kinds pairs row whole is =
    ap (mark_at (revised (values_said columns pairs) row)) (place_kept kinds name columns)
    ∙ mark_by columns name pairs row whole is (place_of name columns) refl
