-- Walks over rows and entries, one after another.
use Rattle.std.proofs.Common.{◌≡◌, ℕ, zero, ◌-◌, ◌≤◌, List, ◌∷◌, subst, arith}
use Rattle.std.proofs.lemmas.List.Elements.{All-rest}
use Rattle.vpf_theme.specs.Entries.{AreRows}

pub row_first : (n row : ℕ) (rows rest : List ℕ) → rows ≡ row ∷ rest → AreRows n rows → (1 ≤ row) × (row ≤ n)
row_first n row rows rest e h = (subst (AreRows n) e h) zero 0 (omega arith)

pub rows_rest : (n row : ℕ) (rows rest : List ℕ) → rows ≡ row ∷ rest → AreRows n rows → AreRows n rest
rows_rest n row rows rest e h = All-rest (λ r. (1 ≤ r) × (r ≤ n)) row rest rows e h
