use Rattle.std.proofs.Common.{◌≡◌, ◌++◌, map}
use Rattle.std.specs.Vec.Iter.{into_iter_items}
use Rattle.vpf_library_commands.specs.Made.{file_within}
use Rattle.vpf_library_commands.proofs.making.all_within.Given as goal

abbrev pub invariant-loop-file : goal.invariant-loop-file
invariant-loop-file l = l.all.items ++ map (file_within l.folder) (into_iter_items l.file-iterator) ≡ map (file_within l.folder) l.fn.files.items
