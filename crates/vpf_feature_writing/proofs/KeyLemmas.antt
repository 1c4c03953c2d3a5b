-- The first row that joins features to primitives by these' numbers.
use Rattle.std.proofs.Common.{◌≡◌, ℕ, ◌+◌, not, cond, Bool, List, [], ◌∷◌, Option, Some, None, map, refl, ap, add-one, position}
use Rattle.std.specs.List.{position_or_len}
use Rattle.std.specs.Option.{option_map}
use Rattle.std.proofs.lemmas.List.{length-map}
use Rattle.vpf_feature_files.specs.SchemaRows.Joins.{join_of}
use Rattle.vpf_feature_files.specs.declared.schema_rows.rows.SchemaRow.{SchemaRow}
use Rattle.vpf_feature_writing.specs.Keys.{joins_by_number, numbered_row}

-- as many fail from the front on among the images of a list as in the list
passes_mapped : {A B : Type 0} (f : A → B) (p : B → Bool) (xs : List A) → position_or_len p (map f xs) ≡ position_or_len (λ x. p (f x)) xs
passes_mapped f p [] = refl
passes_mapped f p (x ∷ xs) = ap (λ n. cond (not (p (f x))) (1 + n) 0) (passes_mapped f p xs)

-- the first that passes among the images of a list stands where it does in the list
position_mapped : {A B : Type 0} (f : A → B) (p : B → Bool) (xs : List A) → position p (map f xs) ≡ position (λ x. p (f x)) xs
position_mapped f p xs = rw (passes_mapped f p xs, length-map xs f) refl

-- the number of a row, counted from 1, is one more than its place
pub numbered_at : (rows : List SchemaRow) (place : Option ℕ) → place ≡ position (λ row. joins_by_number (join_of row)) rows
    → option_map (λ n. n + 1) place ≡ numbered_row (map join_of rows)
numbered_at rows (Some place) is = rw (position_mapped join_of joins_by_number rows, ← is) (ap Some (add-one place))
numbered_at rows None is = rw (position_mapped join_of joins_by_number rows, ← is) refl
