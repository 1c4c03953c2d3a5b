-- Key columns that aren't there, row by row; and the column of a name, which has a place.
use Rattle.std.proofs.Common.{[], ◌≡◌, ℕ, zero, suc, ◌<◌, List, ◌∷◌, Option, None, Some, drop, length, map, refl, arith}
use Rattle.std.proofs.lemmas.List.{length-map}
use Rattle.std.proofs.lemmas.List.Quantifiers.{position-Some}
use Rattle.std.proofs.lemmas.Option.{slice_get_cases}
use Rattle.std.specs.Prelude.{slice_get, slice_index_or}
use Rattle.vpf_head.specs.Folding.{same_name}
use Rattle.vpf_head.specs.Head.{Col, names, place_of}
use Rattle.vpf_prims.specs.Coverages.{CoverageTables}
use Rattle.vpf_feature_files.specs.SchemaRows.Joins.{join_of}
use Rattle.vpf_feature_files.specs.declared.schema_rows.rows.SchemaRow.{SchemaRow}
use Rattle.vpf_feature_commands.specs.Classes.Keys.{absent_key, first_absent}
use Rattle.vpf_replies.specs.Inner.ColumnLaws.{column_or_past}

-- ---- the rows from one on

abbrev pub absent_from_row : CoverageTables → List Col → List SchemaRow → ℕ → Option (List ℕ)
absent_from_row c columns rows i = first_absent c columns (map join_of (drop i rows))

-- a row whose keys are there is passed over
pub keys_passed : (c : CoverageTables) (columns : List Col) (rows : List SchemaRow) (i : ℕ) (d : SchemaRow) → i < length rows
    → absent_key c columns (join_of (slice_index_or rows i d)) ≡ None → absent_from_row c columns rows i ≡ absent_from_row c columns rows (suc i)
keys_passed c columns [] i d l none = absurd (omega arith)
keys_passed c columns (row ∷ rows) zero d l none = rw none refl
keys_passed c columns (row ∷ rows) (suc i) d l none = keys_passed c columns rows i d (omega arith) none

-- the first key that isn't there is told
pub key_told : (c : CoverageTables) (columns : List Col) (rows : List SchemaRow) (i : ℕ) (d : SchemaRow) (key : List ℕ) → i < length rows
    → absent_key c columns (join_of (slice_index_or rows i d)) ≡ Some key → absent_from_row c columns rows i ≡ Some key
key_told c columns [] i d key l told = absurd (omega arith)
key_told c columns (row ∷ rows) zero d key l told = rw told refl
key_told c columns (row ∷ rows) (suc i) d key l told = key_told c columns rows i d key (omega arith) told

-- ---- the column of a name

-- it stands at its place
pub column_at : (name : List ℕ) (columns : List Col) (c : ℕ) → place_of name columns ≡ Some c → (column : Col) × (slice_get columns c ≡ Some column)
column_at name columns c e =
    let len : length (names columns) ≡ length columns = simp length-map in
    let first = position-Some (same_name name) (names columns) c [] e in
    let inside : c < length (names columns) = first.0 in
    column_or_past columns c (rw len at inside) (slice_get_cases columns c).1
