-- Rows of one width.
use Rattle.std.specs.Prelude.{ℕ, ◌+◌, List, [], ◌∷◌, Option, Some, None}
use Rattle.vpf_findings.specs.Widths.{cell_width}
use Rattle.vpf_head.specs.Head.{Col}

-- the sum of two widths, where both are known
abbrev pub add_width : Option ℕ → Option ℕ → Option ℕ
add_width None b = None
add_width (Some a) None = None
add_width (Some a) (Some b) = Some (a + b)

-- how many bytes each row of these columns has, where that is the same for all
abbrev pub width_of : List Col → Option ℕ
width_of [] = Some 0
width_of (c ∷ cs) = add_width (cell_width c.kind c.count) (width_of cs)
