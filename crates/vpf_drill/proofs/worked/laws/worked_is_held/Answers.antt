use Rattle.std.proofs.Common.{refl}
use Rattle.vpf_drill.proofs.worked.ByteLemmas.{holds_bytes}
use Rattle.vpf_drill.proofs.worked.laws.worked_is_held.Goals as goal

pub returns : goal.returns
returns c = record { made = refl; empty = λ name. refl; bytes = holds_bytes }
