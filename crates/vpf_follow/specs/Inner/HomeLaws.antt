-- Where each dart is followed, and no two home darts by the same, each dart has a home copy.
use Rattle.std.proofs.Common.{[], ℕ, List, ◌∷◌}

-- all but the first
unfoldable pub after_first : List ℕ → List ℕ
after_first [] = []
after_first (x ∷ xs) = xs
