-- Edges that are counted by their + darts.
use Rattle.std.specs.Prelude.{ℕ, ◌==◌, List, filter, length}
use Rattle.vpf_darts.specs.Darts.{sign_in}
use Rattle.vpf_prims.specs.Primitives.{Library}
use Rattle.vpf_wing.specs.Links.{links_of}
use Rattle.vpf_follow.specs.Following.{is_home}

-- how many of some darts are + darts and home darts
unfoldable pub plus_count : Library → List ℕ → ℕ
plus_count L darts = length (filter (λ d. sign_in d == 0) (filter (is_home (links_of L)) darts))
