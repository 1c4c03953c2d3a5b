use Rattle.std.proofs.Common.{◌≡◌, drop}
use Rattle.vpf_drill.specs.Digest.{digest_of_files}
use Rattle.vpf_drill.proofs.digest.Digest.and_files.Given as goal

abbrev pub invariant-loop-file : goal.invariant-loop-file
invariant-loop-file l = digest_of_files l.digest.0 (drop l.file-index l.files) ≡ digest_of_files l.fn.self.0 l.files
