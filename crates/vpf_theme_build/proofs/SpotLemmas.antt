-- The cells of a column, one after another.
use Rattle.std.proofs.Common.{◌≡◌, ℕ, zero, suc, ◌+◌, List, [], ◌∷◌, ◌++◌, map, Some, append_assoc, subst, ◌∙◌, arith}
use Rattle.std.specs.Prelude.{All, slice_get, slice_index_or}
use Rattle.std.proofs.lemmas.List.{map-append}
use Rattle.std.proofs.lemmas.Option.{get_or_from_slice_get}
use Rattle.vpf_value.specs.Values.{Value, Nothing, view}
use Rattle.vpf_value.specs.Inner.Fitting.{FitsCell}
use Rattle.vpf_head.specs.Head.{Col}
use Rattle.vpf_table.specs.Grid.{Row}
use Rattle.vpf_table.specs.Canonical.{FitsRow}
use Rattle.vpf_theme_build.specs.declared.grouping.Spot.{Spot}
use Rattle.vpf_theme_build.specs.Grouping.{numbered_cells, seen}

pub spots_more : (f : Row → Value) (c k : ℕ) (items more : List Spot) (spot : Spot) (row : Row) (rows rest : List Row) (whole : List (Value × ℕ)) → ((r : Row) → f r ≡ slice_index_or r c Nothing) → more ≡ items ++ spot ∷ [] → slice_get row c ≡ Some (view spot.cell) → spot.row ≡ k + 1 → rows ≡ row ∷ rest → map seen items ++ numbered_cells (k + 1) (map f rows) ≡ whole → map seen more ++ numbered_cells (k + 1 + 1) (map f rest) ≡ whole
spots_more f c k items more spot row rows rest whole by pushed is number steps done =
    let e : f row ≡ view spot.cell = by row ∙ get_or_from_slice_get row c (view spot.cell) Nothing is in
    let d = rw (steps, e, ← number) at done in
    rw (pushed, map-append seen items (spot ∷ []), append_assoc, ← number) d

pub fits_at : (columns : List Col) (row : Row) (c : ℕ) (column : Col) (v : Value) → FitsRow columns row → slice_get columns c ≡ Some column → slice_get row c ≡ Some v → FitsCell column.kind column.count v
fits_at [] row c column v f a b = absurd (cc a)
fits_at (k ∷ columns) [] c column v f a b = absurd f
fits_at (k ∷ columns) (u ∷ row) zero column v f a b = fits_by k column u v (cc a) (cc b) f.0
  where
    fits_by : (k column : Col) (u v : Value) → k ≡ column → u ≡ v → FitsCell k.kind k.count u → FitsCell column.kind column.count v
    fits_by k column u v x y g = rw (← x, ← y) g
fits_at (k ∷ columns) (u ∷ row) (suc c) column v f a b = fits_at columns row c column v f.1 a b

pub first_fits : (columns : List Col) (row : Row) (rows rest : List Row) → rows ≡ row ∷ rest → All (FitsRow columns) rows → FitsRow columns row
first_fits columns row rows rest e h = (subst (All (FitsRow columns)) e h) zero row (omega arith)
