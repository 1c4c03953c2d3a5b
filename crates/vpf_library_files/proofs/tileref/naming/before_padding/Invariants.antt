use Rattle.std.proofs.Common.{◌≡◌, length}
use Rattle.vpf_source.specs.Names.Items.{before_padding}
use Rattle.vpf_library_files.proofs.tileref.naming.before_padding.Given as goal

abbrev pub invariant-loop-text : goal.invariant-loop-text
invariant-loop-text l = before_padding l.text ≡ before_padding l.initial.text

abbrev pub decreases-loop-text : goal.decreases-loop-text
decreases-loop-text l = length l.text
