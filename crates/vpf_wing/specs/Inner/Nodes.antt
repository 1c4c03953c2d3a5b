-- How many darts begin at each node, as it is kept.
use Rattle.std.specs.Prelude.{◌≡◌, ℕ, List, slice_index_or}
use Rattle.vpf_darts.specs.Cycles.{count_of}

-- the list holds, for each node, how many darts begin there
abbrev pub HoldCounts : List ℕ → List ℕ → Type 0
HoldCounts tails counts = (node : ℕ) → slice_index_or counts node 0 ≡ count_of node tails
