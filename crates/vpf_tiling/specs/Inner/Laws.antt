-- What is so of the numbers of edges, nodes and faces in a tile, of every coverage and every plan.
use Rattle.std.specs.List.{range_with_len}
use Rattle.std.specs.Prelude.{count_by, ◌+◌, ◌≡◌, ℕ, true}
use Rattle.vpf_prims.specs.Primitives.{Primitives}
use Rattle.vpf_wing.specs.WellFormed.{IsWellFormed}
use Rattle.vpf_tiling.specs.Presence.{has_edge, has_node, holds_face, local_edge, local_node, local_face}

-- the number of an edge in a tile is how many present edges there are up to it
abbrev pub EdgesAreCounted : Type 0
EdgesAreCounted = (c : Primitives) (plan : ℕ → ℕ) (t e : ℕ) → has_edge c plan t e ≡ true
    → local_edge c plan t e ≡ count_by (has_edge c plan t) (range_with_len 1 e)

-- the same of a node
abbrev pub NodesAreCounted : Type 0
NodesAreCounted = (c : Primitives) (plan : ℕ → ℕ) → IsWellFormed c → (t n : ℕ) → has_node c plan t n ≡ true
    → local_node c plan t n ≡ count_by (has_node c plan t) (range_with_len 1 n)

-- that of a face is one more, since the universe is 1
abbrev pub FacesAreCounted : Type 0
FacesAreCounted = (c : Primitives) (plan : ℕ → ℕ) (t f : ℕ) → holds_face c plan t f ≡ true
    → local_face c plan t f ≡ count_by (holds_face c plan t) (range_with_len 1 f) + 1
