-- The tiles so far.
use Rattle.std.proofs.Common.{◌≡◌, ℕ, [], get_or, length}
use Rattle.vpf_follow.proofs.dart_places.reach_tile.Given as goal

abbrev pub invariant-loop : goal.invariant-loop
invariant-loop l =
    ((t : ℕ) → get_or l.tiles.items t [] ≡ get_or l.initial.tiles.items t []) × (length l.tiles.items ≡ l.counter)
