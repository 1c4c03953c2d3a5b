-- Paths that are kept, each in one text.
use Rattle.std.specs.Prelude.{ℕ, List, String, map, string_bytes}
use Rattle.std.specs.Global.{Global}
use Rattle.std.specs.HashSet.{HashSet}

-- the texts in a set, in its order
abbrev pub texts_in : {S : Type 0} → HashSet (String Global) S → List (List ℕ)
texts_in paths = map (λ path. string_bytes path) paths.keys
