-- The darts of a tile by their places in 1+, 1-, 2+ and so on, counted from 0, and the cycles that their nexts make.
use Rattle.std.specs.Prelude.{ℕ, zero, suc, ◌+◌, ◌-◌, ◌*◌, ◌/◌, ◌%◌, ◌==◌, nat_lt, if◌then◌else◌, Option, Some, None, List, [], ◌∷◌, length}
use Rattle.vpf_darts.specs.declared.darts.Dart.{Dart}
use Rattle.vpf_darts.specs.Darts.{dart_code}
use Rattle.vpf_darts.specs.MapLists.{dart_place}
use Rattle.vpf_findings.specs.Findings.{Sight, DartSeen}
use Rattle.vpf_prims.specs.declared.rows.Edge.{Edge}
use Rattle.vpf_wing.specs.Nexts.{next_dart, dart_at}
use Rattle.vpf_wing.specs.Walks.{least_after}

-- the place of a dart, or this one where there is none
abbrev pub place_or : Option Dart → ℕ → ℕ
place_or None p = p
place_or (Some d) p = dart_place (dart_code d)

-- the place of the next of the dart at a place; past the darts, or where a dart has no next, a place is its own
unfoldable pub next_place : List Edge → ℕ → ℕ
next_place edges p = if nat_lt p (2 * length edges) then place_or (next_dart edges (dart_at p)) p else p

-- the place of the least dart of the cycle of the dart at a place
unfoldable pub least_place : List Edge → ℕ → ℕ
least_place edges p = least_after (next_place edges) (2 * length edges) p

-- the place of the other dart of the edge
abbrev pub flip_place : ℕ → ℕ
flip_place p = p + 1 - 2 * (p % 2)

-- the place of the next dart round the tail of the dart at a place
abbrev pub turn_place : List Edge → ℕ → ℕ
turn_place edges p = next_place edges (flip_place p)

-- how many steps lead from x to start, of at most n
abbrev pub steps_back : (ℕ → ℕ) → ℕ → ℕ → ℕ → ℕ
steps_back step start zero x = 0
steps_back step start (suc n) x = if step x == start then 1 else 1 + steps_back step start n (step x)

-- how many darts are on one cycle of turn with the dart at a place
abbrev pub turn_size : List Edge → ℕ → ℕ
turn_size edges p = steps_back (turn_place edges) p (2 * length edges) p

-- the nodes where the darts begin, by their places
abbrev pub tails : List Edge → List ℕ
tails [] = []
tails (e ∷ edges) = e.start_node ∷ e.end_node ∷ tails edges

-- the dart at a place of a tile, as it is seen
abbrev pub place_seen : ℕ → ℕ → Sight
place_seen t p = DartSeen (record { tile = t; edge = p / 2 + 1; minus = p % 2 == 1 })
