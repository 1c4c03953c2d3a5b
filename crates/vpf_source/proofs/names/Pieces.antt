-- Pieces, and the last of them.
use Rattle.std.proofs.Common.{◌≡◌, ℕ, true, false, List, [], ◌∷◌, ◌++◌, length, None, Some, refl, ap}
use Rattle.std.specs.Prelude.{◌==◌}
use Rattle.vpf_source.specs.Names.Folders.{last_of, front_of, split_of}

pub last_behind : (ps : List (List ℕ)) (p : List ℕ) → last_of (ps ++ p ∷ []) ≡ p
last_behind [] p = refl
last_behind (q ∷ []) p = refl
last_behind (q ∷ r ∷ ps) p = last_behind (r ∷ ps) p

pub front_behind : (ps : List (List ℕ)) (p : List ℕ) → front_of (ps ++ p ∷ []) ≡ ps
front_behind [] p = refl
front_behind (q ∷ []) p = refl
front_behind (q ∷ r ∷ ps) p = ap (λ (rest : List (List ℕ)). q ∷ rest) (front_behind (r ∷ ps) p)

-- nothing stands behind the last slash
pub open_split : (pieces front : List (List ℕ)) (last : List ℕ) → pieces ≡ front ++ last ∷ [] → (length last == 0) ≡ true → split_of pieces ≡ None
open_split pieces front last e h = rw (e, last_behind front last, h) refl

-- a name in a folder
pub closed_split : (pieces front : List (List ℕ)) (last : List ℕ) → pieces ≡ front ++ last ∷ [] → (length last == 0) ≡ false → split_of pieces ≡ Some (last, front)
closed_split pieces front last e h = rw (e, last_behind front last, h, last_behind front last, front_behind front last) refl
