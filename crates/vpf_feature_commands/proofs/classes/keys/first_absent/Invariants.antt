use Rattle.std.proofs.Common.{◌≡◌, drop, map}
use Rattle.vpf_feature_files.specs.SchemaRows.Joins.{join_of}
use Rattle.vpf_feature_commands.specs.Classes.Keys.{first_absent}
use Rattle.vpf_feature_commands.proofs.classes.keys.first_absent.Given as goal

abbrev pub invariant-loop-said : goal.invariant-loop-said
invariant-loop-said l = first_absent l.coverage l.header.columns (map join_of (drop l.said-index l.joins)) ≡ first_absent l.coverage l.header.columns (map join_of l.joins)
