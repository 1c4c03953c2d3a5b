-- Texts, one after another.
use Rattle.std.specs.Prelude.{ℕ, List, ◌++◌}

-- one text and then another, grouped to the right as printing puts its pieces
infixr 20 ◌&◌
abbrev pub ◌&◌ : List ℕ → List ℕ → List ℕ
first & second = first ++ second
