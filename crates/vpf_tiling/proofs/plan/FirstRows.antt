-- What a plan names for a face is in the first row of the face.
use Rattle.std.proofs.Common.{◌≡◌, ◌∙◌, ℕ, ℤ, zero, suc, ◌<◌, Bool, true, false, Option, Some, None, List, [], ◌∷◌, length, get_or, refl, arith}
use Rattle.std.specs.Prelude.{◌==◌}
use Rattle.std.proofs.lemmas.Bool.Decides.{nat_tests}
use Rattle.vpf_table.specs.Grid.{Row}
use Rattle.vpf_findings.specs.Firsts.{◌or◌, where_holds}
use Rattle.vpf_prims.specs.Columns.{RoleAt, id_column}
use Rattle.vpf_prims.specs.Reading.{natural_in}
use Rattle.vpf_prims.specs.References.{cell_at, signed_in}
use Rattle.vpf_tiling.specs.Inner.Plan.Laws.{FirstRowNames, NoRowNames}
use Rattle.vpf_tiling.specs.Plan.Named.{named_in, names_face}
use Rattle.vpf_tiling.specs.Plan.Plans.{tile_column}

same_face : (id : Option ℕ) (face : ℕ) → id ≡ Some face → names_face id face ≡ true
same_face None face e = absurd cc
same_face (Some n) face e = let same : n ≡ face = cc in grind (arith, nat_tests)

is_other : (n face : ℕ) (test : Bool) → (n == face) ≡ test → (n ≡ face → ⊥) → test ≡ false
is_other n face true e h = let same : n ≡ face = grind (arith, nat_tests) in absurd (h same)
is_other n face false e h = refl

other_face : (id : Option ℕ) (face : ℕ) → (id ≡ Some face → ⊥) → names_face id face ≡ false
other_face None face h = refl
other_face (Some n) face h = is_other n face (n == face) refl (λ e. h (rw e refl))

-- row i, counted from 0, is of a face
abbrev IsOf : (id : RoleAt) (face : ℕ) (rows : List Row) (i : ℕ) → Type 0
IsOf id face rows i = natural_in (cell_at (get_or rows i []) id.place) ≡ Some face

names_it : (test : Bool) (z : ℤ) (later : Option ℤ) → test ≡ true → (where_holds test z or later) ≡ Some z
names_it test z later e = rw e refl

names_later : (test : Bool) (z : ℤ) (later : Option ℤ) → test ≡ false → (where_holds test z or later) ≡ later
names_later test z later e = rw e refl

first_names : (id tile : RoleAt) (face : ℕ) (rows : List Row) (i : ℕ) → i < length rows → IsOf id face rows i → ((j : ℕ) → j < i → IsOf id face rows j → ⊥)
    → named_in id tile face rows ≡ Some (signed_in (cell_at (get_or rows i []) tile.place))
first_names id tile face [] i l of first = absurd (omega arith)
first_names id tile face (row ∷ rows) zero l of first =
    names_it (names_face (natural_in (cell_at row id.place)) face) (signed_in (cell_at row tile.place)) (named_in id tile face rows) (same_face _ face of)
first_names id tile face (row ∷ rows) (suc i) l of first =
    let other = other_face (natural_in (cell_at row id.place)) face (first zero (omega arith)) in
    names_later (names_face (natural_in (cell_at row id.place)) face) (signed_in (cell_at row tile.place)) (named_in id tile face rows) other
    ∙ first_names id tile face rows i (omega arith) of (λ j h. first (suc j) (omega arith))

none_names : (id tile : RoleAt) (face : ℕ) (rows : List Row) → ((i : ℕ) → i < length rows → IsOf id face rows i → ⊥) → named_in id tile face rows ≡ None
none_names id tile face [] none = refl
none_names id tile face (row ∷ rows) none =
    let other = other_face (natural_in (cell_at row id.place)) face (none zero (omega arith)) in
    names_later (names_face (natural_in (cell_at row id.place)) face) (signed_in (cell_at row tile.place)) (named_in id tile face rows) other
    ∙ none_names id tile face rows (λ i h. none (suc i) (omega arith))

pub first_row_names : FirstRowNames
first_row_names plan face zero h = absurd (omega (arith, h.row.0))
first_row_names plan face (suc i) h =
    first_names (id_column plan.head.columns) (tile_column plan.head.columns) face plan.rows i (omega (arith, h.row.1)) h.of
    (λ j l. h.first (suc j) (omega arith, omega (arith, h.row.1)) (omega arith))

pub no_row_names : NoRowNames
no_row_names plan face none =
    none_names (id_column plan.head.columns) (tile_column plan.head.columns) face plan.rows (λ i l. none (suc i) (omega arith, omega arith))
