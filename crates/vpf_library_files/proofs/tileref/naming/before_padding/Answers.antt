use Rattle.std.proofs.Common.{◌∙◌, rules, arith}
use Rattle.vpf_library_files.proofs.tileref.NameLemmas.{shortened, stands}
use Rattle.vpf_library_files.proofs.tileref.naming.before_padding.Goals as goal

pub loop-text-preserved : goal.loop-text-preserved
loop-text-preserved c = shortened c.loop-text.text.now (omega arith) (search rules) ∙ c.loop-text.invariant

pub returns-else-is_padding : goal.returns-else-is_padding
returns-else-is_padding c = stands c.loop-text.text.now (omega arith) (search rules) ∙ c.loop-text.invariant
