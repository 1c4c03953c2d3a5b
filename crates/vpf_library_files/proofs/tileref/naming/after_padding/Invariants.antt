use Rattle.std.proofs.Common.{◌≡◌, length}
use Rattle.vpf_source.specs.Names.Items.{after_padding}
use Rattle.vpf_library_files.proofs.tileref.naming.after_padding.Given as goal

abbrev pub invariant-loop-text : goal.invariant-loop-text
invariant-loop-text l = after_padding l.text ≡ after_padding l.initial.text

abbrev pub decreases-loop-text : goal.decreases-loop-text
decreases-loop-text l = length l.text
