-- Darts that have ranks from 0 in their order, and the cycles of their nexts.
use Rattle.std.specs.Prelude.{◌≡◌, ℕ, ◌+◌, ◌<◌, ◌≤◌, Bool, true, if◌then◌else◌, List, ◌++◌, map, slice_index_or}
use Rattle.vpf_darts.specs.declared.darts.TileDart.{TileDart}
use Rattle.vpf_darts.specs.Cycles.{count_of, first_of, IsCycle, IsListing}
use Rattle.vpf_darts.specs.Listings.{numbers_of}

-- next permutes the ranks below count, those of live darts among themselves
pub record IsRanking (count : ℕ) (next : ℕ → ℕ) (live : ℕ → Bool) : Type 0 where
  pub apart : (c d : ℕ) → next c ≡ next d → c ≡ d
  pub inside : (d : ℕ) → d < count → next d < count
  pub outside : (d : ℕ) → count ≤ d → next d ≡ d
  pub next_live : (d : ℕ) → live (next d) ≡ live d
  pub live_inside : (d : ℕ) → live d ≡ true → d < count

-- the darts of these lists, by their ranks, are the listing of the nexts
pub record IsRankedListing (code next : ℕ → ℕ) (live : ℕ → Bool) (lists : List (List TileDart)) : Type 0 where
  pub ranks : List (List ℕ)
  pub listing : IsListing next live ranks
  pub darts : numbers_of lists ≡ map (map code) ranks

-- whether a rank is marked; beyond the marks every rank is
abbrev pub marked : List Bool → ℕ → Bool
marked marks rank = slice_index_or marks rank true

-- a rank is marked exactly where its next is
abbrev pub IsClosed : (ℕ → ℕ) → (ℕ → Bool) → Type 0
IsClosed next marks = (d : ℕ) → marks (next d) ≡ marks d

-- the new marks are the old ones and the ranks of the list, each of these once
abbrev pub Marks : (ℕ → Bool) → (ℕ → Bool) → List ℕ → Type 0
Marks old new xs = (d : ℕ) → (if new d then 1 else 0) ≡ (if old d then 1 else 0) + count_of d xs

-- a cycle from start is marked, and its darts are put after the ones before
pub record AddsCycle (code next : ℕ → ℕ) (start : ℕ) (old new : ℕ → Bool) (before after : List ℕ) : Type 0 where
  pub ranks : List ℕ
  pub cycle : IsCycle next ranks
  pub first : first_of ranks ≡ start
  pub marks : Marks old new ranks
  pub adds : after ≡ before ++ map code ranks
