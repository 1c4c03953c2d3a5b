-- The words that commands share.
use Rattle.std.specs.Prelude.{ℕ, List, [], ◌∷◌, Option, None}
use Rattle.vpf_source.specs.Names.Naming.{file_name}

-- the file that the words name where they are one word
abbrev pub one_file : List (List ℕ) → Option (List ℕ)
one_file (word ∷ []) = file_name word
one_file words = None
