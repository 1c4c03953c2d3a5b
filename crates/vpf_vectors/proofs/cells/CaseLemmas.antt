-- The next dart of a grid permutes its darts: by cases.
use Rattle.std.proofs.Common.{◌≡◌, ℕ, ◌≤◌, true, arith}
use Rattle.std.proofs.lemmas.Bool.Decides.{nat_tests}
use Rattle.vpf_vectors.specs.Inner.Cells.Laws.{NextByCases}
use Rattle.vpf_vectors.specs.Cells.Corners.{Way, East, North, West, South, has_arrow, next_arrow, next_from}
use Rattle.vpf_vectors.proofs.cells.ArrowLemmas.{arrow}

pub cases_agree : (n x y : ℕ) (w : Way) → 1 ≤ n → has_arrow n (arrow x y w) ≡ true → next_arrow n (arrow x y w) ≡ next_from n x y w
cases_agree n x y East le h = grind (arith, nat_tests)
cases_agree n x y North le h = grind (arith, nat_tests)
cases_agree n x y West le h = grind (arith, nat_tests)
cases_agree n x y South le h = grind (arith, nat_tests)

pub next-by_cases : NextByCases
next-by_cases n a le h = cases_agree n a.x a.y a.way le h
