-- What is built, put together.
use Rattle.std.proofs.Common.{[], ◌≡◌, ℕ, List, Some, sym, ◌∙◌, zero, suc, ◌∷◌, subst, ◌<◌, length, get_or, arith}
use Rattle.std.specs.Prelude.{slice_get, slice_index_or, All}
use Rattle.std.proofs.lemmas.Option.{same_Some}
use Rattle.vpf_head.specs.Head.{Col}
use Rattle.vpf_value.specs.Values.{Nothing}
use Rattle.vpf_value.specs.Inner.Fitting.{FitsCell}
use Rattle.vpf_table.specs.Grid.{Row, Grid}
use Rattle.vpf_table.specs.Canonical.{FitsRow}
use Rattle.std.proofs.lemmas.List.{get_or-map, length-map}
use Rattle.vpf_theme.specs.Findings.{cells_of}

pub one_column : (columns : List Col) (c : ℕ) (a b : Col) → slice_get columns c ≡ Some a → slice_get columns c ≡ Some b → a ≡ b
one_column columns c a b x y = same_Some a b (sym x ∙ y)

pub row_fits : (columns : List Col) (row : Row) (c : ℕ) (column : Col) → FitsRow columns row → slice_get columns c ≡ Some column → FitsCell column.kind column.count (slice_index_or row c Nothing)
row_fits [] row c column f a = absurd (cc a)
row_fits (k ∷ columns) [] c column f a = absurd f
row_fits (k ∷ columns) (v ∷ row) zero column f a = let e = same_Some k column a in subst (λ (x : Col). FitsCell x.kind x.count v) e f.0
row_fits (k ∷ columns) (v ∷ row) (suc c) column f a = row_fits columns row c column f.1 a

pub cells_fit : (grid : Grid) (c : ℕ) (column : Col) → All (FitsRow grid.head.columns) grid.rows → slice_get grid.head.columns c ≡ Some column → All (FitsCell column.kind column.count) (cells_of grid c)
cells_fit grid c column fits is k d h =
    let f = λ (row : Row). slice_index_or row c Nothing in
    let m : k < length grid.rows = omega (arith, h, length-map grid.rows f) in
    rw (get_or-map f grid.rows k [] d m) (row_fits grid.head.columns (get_or grid.rows k []) c column (fits k [] m) is)
