use Rattle.vpf_theme.specs.Inner.Repeating.{HoldPlaced}
use Rattle.vpf_theme.proofs.repeating.placed_values.Given as goal

abbrev pub invariant-loop-place : goal.invariant-loop-place
invariant-loop-place l = HoldPlaced l.theme.entries l.place l.placed.items
