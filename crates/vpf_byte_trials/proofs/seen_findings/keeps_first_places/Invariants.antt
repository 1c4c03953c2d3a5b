use Rattle.std.proofs.Common.{◌≡◌, length}
use Rattle.vpf_byte_trials.proofs.seen_findings.keeps_first_places.Given as goal

abbrev pub invariant-loop-key : goal.invariant-loop-key
invariant-loop-key g l = length l.places ≡ l.key-index
