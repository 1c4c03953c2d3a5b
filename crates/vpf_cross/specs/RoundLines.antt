-- What disagrees in the turning of a tile about its nodes: the next of a dart in its tile is the copy there of the first dart that has one
-- among those that follow it in the whole coverage, round the node.
use Rattle.std.specs.Prelude.{ℕ, zero, suc, ◌+◌, Bool, true, false, ◌==◌, ◌&&◌, length, Option, Some, None, find}
use Rattle.vpf_darts.specs.Darts.{code, tile_in, sign_of, flip}
use Rattle.vpf_findings.specs.Findings.{Disagreement}
use Rattle.vpf_findings.specs.Firsts.{◌or◌, unless}
use Rattle.vpf_prims.specs.Tables.{TileTables}
use Rattle.vpf_wing.specs.Links.{DartLinks, local_next}
use Rattle.vpf_follow.specs.Libraries.{over_edges}
use Rattle.vpf_follow.specs.Following.{follow, home_copy, number_seen}
use Rattle.vpf_follow.specs.FollowLines.{at_wing_of}

-- a copy of y in tile t
unfoldable pub copy_in_tile : DartLinks → ℕ → ℕ → Option ℕ
copy_in_tile C t y = find (λ e. (tile_in e == t) && (home_copy C e == home_copy C y)) C.darts

-- the copy in tile t of the first that has one there of y, the dart that follows flip(y), and so on, of so many
abbrev pub first_copy : DartLinks → ℕ → ℕ → Option ℕ → Option ℕ
first_copy C t zero y = None
first_copy C t (suc n) None = None
first_copy C t (suc n) (Some y) = copy_in_tile C t y or first_copy C t n (follow C (flip y))

-- the next in the tile isn't the copy of that first one
abbrev pub first_copy_line : ℕ → TileTables → ℕ → Bool → (next copy : Option ℕ) → Option Disagreement
first_copy_line t T k minus None copy = None
first_copy_line t T k minus (Some e) None = None
first_copy_line t T k minus (Some e) (Some copy) = unless (e == copy) (at_wing_of t T 6 k minus (number_seen e) (number_seen copy))

-- the line on the next of a dart in its tile
abbrev pub round_line : DartLinks → ℕ → TileTables → ℕ → Bool → Option Disagreement
round_line C t T k minus =
    let d = code t k (sign_of minus) in
    first_copy_line t T k minus (local_next C d) (first_copy C t (length C.darts + 1) (follow C d))

-- of both darts of edge k
abbrev pub round_lines : DartLinks → ℕ → TileTables → ℕ → Option Disagreement
round_lines C t T k = round_line C t T k false or round_line C t T k true

-- what disagrees first in the turning of tile t
abbrev pub rounds_finding : DartLinks → ℕ → TileTables → Option Disagreement
rounds_finding C t T = over_edges (round_lines C t T) T
