use Rattle.std.proofs.Common.{refl}
use Rattle.vpf_drill.proofs.grid_cutting.HeldLemmas.{holds_bytes}
use Rattle.vpf_drill.proofs.grid_cutting.laws.grid_is_held.Goals as goal

pub returns-clause-made : goal.returns-clause-made
returns-clause-made c n = refl

pub returns-clause-empty : goal.returns-clause-empty
returns-clause-empty c n name = refl

pub returns-clause-bytes : goal.returns-clause-bytes
returns-clause-bytes c = holds_bytes
