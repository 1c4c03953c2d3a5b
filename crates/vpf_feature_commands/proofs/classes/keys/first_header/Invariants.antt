use Rattle.std.proofs.Common.{◌≡◌, drop}
use Rattle.vpf_feature_commands.proofs.classes.HeaderLemmas.{first_of}
use Rattle.vpf_feature_commands.proofs.classes.keys.first_header.Given as goal

abbrev pub invariant-loop-t : goal.invariant-loop-t
invariant-loop-t l = first_of l.name (drop l.t l.coverage.tiles) ≡ first_of l.name l.coverage.tiles
