use Rattle.std.proofs.Common.{◌≡◌, ◌++◌, take, string_bytes}
use Rattle.vpf_library_files.proofs.tileref.naming.put_folder.Given as goal

abbrev pub invariant-loop-b : goal.invariant-loop-b
invariant-loop-b l = string_bytes l.text ≡ string_bytes l.initial.text ++ take l.b-index l.name
