-- Cells of one width.
use Rattle.std.specs.Prelude.{◌≡◌, ℕ, ◌*◌, ◌<◌, ◌≤◌, List, length, Option, Some, None, Ok, Err}
use Rattle.vpf_triplet.specs.declared.kinds.Kind.{Kind}
use Rattle.vpf_triplet.specs.declared.kinds.Kind.TheVariants as kinds
use Rattle.vpf_triplet.specs.declared.kinds.Count.{Count}
use Rattle.vpf_triplet.specs.declared.kinds.Count.TheVariants.{Fixed, Star}
use Rattle.vpf_triplet.specs.declared.places.Code.TheVariants as codes
use Rattle.vpf_value.specs.Values.{Value, date_bytes}
use Rattle.vpf_value.specs.Reading.{CellAnswer}

-- so many values of this many bytes each; no one width where each cell says how many
abbrev pub many_width : ℕ → Count → Option ℕ
many_width size (Fixed n) = Some (size * n)
many_width size Star = None

-- the number of bytes of each cell of this kind and count, where it is the same for all
abbrev pub cell_width : Kind → Count → Option ℕ
cell_width kinds.T count = many_width 1 count
cell_width kinds.L count = many_width 1 count
cell_width kinds.M count = many_width 1 count
cell_width kinds.N count = many_width 1 count
cell_width kinds.F count = Some 4
cell_width kinds.R count = Some 8
cell_width kinds.S count = Some 2
cell_width kinds.I count = Some 4
cell_width kinds.D count = Some date_bytes
cell_width kinds.X count = Some 0
cell_width kinds.K count = None
cell_width kinds.C count = many_width 8 count
cell_width kinds.B count = many_width 16 count
cell_width kinds.Z count = many_width 12 count
cell_width kinds.Y count = many_width 24 count

-- Reading the bytes answers a cell of this width: `cell-cut` exactly where fewer are left.
pub record TakesWidth (width : ℕ) (bytes : List ℕ) (answer : CellAnswer) : Type 0 where
  pub cut : length bytes < width → answer ≡ Err codes.CellCut
  pub whole : width ≤ length bytes → (v : Value) × (answer ≡ Ok (v, width))
