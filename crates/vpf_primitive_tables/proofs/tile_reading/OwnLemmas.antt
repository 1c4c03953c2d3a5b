-- Columns whose names are apart stand where their names do.
use Rattle.std.proofs.Common.{[], ◌≡◌, ℕ, suc, ◌<◌, cond, ltb, lt-ltb, List, ◌∷◌, length, get_or, slice_get, Some, None, refl, sym, ap, ◌∙◌, arith}
use Rattle.std.specs.List.{AllByRecursion, IsDistinct, position_or_len}
use Rattle.std.specs.Option.{option_and_then}
use Rattle.std.proofs.lemmas.List.{get_or-map, length-map}
use Rattle.std.proofs.lemmas.List.Sums.{position_or_len_is}
use Rattle.std.proofs.lemmas.Map.Keys.{apart_from_distinct}
use Rattle.std.proofs.lemmas.Option.{get_or_from_slice_get, slice_get_within}
use Rattle.vpf_head.specs.Folding.{same_name}
use Rattle.vpf_head.specs.Head.{Col, names, place_of}
use Rattle.vpf_prims.specs.Columns.{column_of}
use Rattle.vpf_primitive_tables.specs.Inner.TableForms.ColumnLaws.{same_names}

-- what holds of each element by its place holds of all
pub all_by_place : {X : Type 0} (Q : X → Type 0) (xs : List X) → ((i : ℕ) (x : X) → slice_get xs i ≡ Some x → Q x) → AllByRecursion Q xs
all_by_place Q [] h = tt
all_by_place Q (x ∷ xs) h = (h 0 x refl, all_by_place Q xs (λ i y e. h (suc i) y e))

-- where names are apart, the name of a column stands where the column does
place_own : (columns : List Col) → IsDistinct same_name (names columns) → (i : ℕ) (column : Col) → slice_get columns i ≡ Some column
    → place_of column.name columns ≡ Some i
place_own columns apart i column at =
    let within : i < length columns = slice_get_within columns i column at in
    let inside : i < length (names columns) = omega (arith, within, length-map columns (λ (column : Col). column.name)) in
    let there : get_or (names columns) i [] ≡ column.name =
    get_or-map (λ (x : Col). x.name) columns i column [] within ∙ ap (λ (x : Col). x.name) (get_or_from_slice_get columns i column column at) in
    let first : position_or_len (same_name column.name) (names columns) ≡ i =
    position_or_len_is (same_name column.name) (names columns) i [] (omega arith)
    (λ k before. same_names.symm column.name (get_or (names columns) k []) ∙ ap (same_name (get_or (names columns) k [])) (sym there)
    ∙ apart_from_distinct same_name (names columns) k i [] apart before inside)
    (λ h. ap (same_name column.name) there ∙ same_names.refl column.name) in
    ap (λ k. cond (ltb k (length (names columns))) (Some k) None) first ∙ ap (λ b. cond b (Some i) None) (lt-ltb i (length (names columns)) inside)

-- the column of the name of a column is that column
pub column_own : (columns : List Col) → IsDistinct same_name (names columns) → (i : ℕ) (column : Col) → slice_get columns i ≡ Some column
    → column_of columns column.name ≡ Some column
column_own columns apart i column at = ap (option_and_then (slice_get columns)) (place_own columns apart i column at) ∙ at
