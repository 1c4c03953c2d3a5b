use Rattle.std.proofs.Common.{◌≡◌, drop, map, string_bytes}
use Rattle.vpf_library_files.specs.Tileref.Bounds.{lengths_bound}
use Rattle.vpf_library_files.proofs.tileref.bounds.check_lengths.Given as goal

abbrev pub invariant-loop-path : goal.invariant-loop-path
invariant-loop-path l = lengths_bound (map (λ path. string_bytes path) (drop l.path-index l.paths)) ≡ lengths_bound (map (λ path. string_bytes path) l.paths)
