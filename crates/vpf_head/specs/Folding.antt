-- Names that don't tell capital letters from small ones (MIL-STD-2407, 5.4, column names).
use Rattle.std.specs.Prelude.{ℕ, List, Bool, map, nat_eq}
use Rattle.std.specs.Char.{to_ascii_lowercase}
use Rattle.std.specs.Cmp.Lexicographic.{pointwise}
use Rattle.std.specs.Ordering.{on}

-- the name, its ASCII letters made lower
abbrev pub lowercase : List ℕ → List ℕ
lowercase name = map to_ascii_lowercase name

-- the two are one name
abbrev pub same_name : List ℕ → List ℕ → Bool
same_name = on lowercase (pointwise nat_eq)
