use Rattle.std.proofs.Common.{◌≡◌, drop}
use Rattle.vpf_drill.specs.Digest.{digest_after}
use Rattle.vpf_drill.proofs.digest.Digest.and.Given as goal

abbrev pub invariant-loop-byte : goal.invariant-loop-byte
invariant-loop-byte l = digest_after l.digest (drop l.byte-index l.bytes) ≡ digest_after l.fn.self.0 l.bytes
