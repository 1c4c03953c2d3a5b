use Rattle.std.proofs.Common.{◌≡◌, drop}
use Rattle.vpf_source.specs.Names.Items.{after_padding}
use Rattle.vpf_source.proofs.names.items.after_padding.Given as goal

abbrev pub invariant-loop-i : goal.invariant-loop-i
invariant-loop-i l = after_padding (drop l.i l.item) ≡ after_padding l.item
