use Rattle.std.proofs.Common.{◌≡◌, ℕ, take, ◌&&◌, ◌||◌}
use Rattle.vpf_cutting.specs.Inner.Copies.Lists.{is_paired}
use Rattle.vpf_cutting.specs.Inner.Copies.Placing.{is_end}
use Rattle.vpf_cutting.specs.Inner.Copies.Presence.{is_one_of}
use Rattle.vpf_cutting.proofs.copies.copies.put_ends.Given as goal

abbrev pub invariant-loop-tile : goal.invariant-loop-tile
invariant-loop-tile l = (t v : ℕ) → is_paired l.pairs.items t v ≡ (is_paired l.initial.pairs.items t v || (is_one_of (take l.tile-index l.tiles) t && is_end l.ends v))
