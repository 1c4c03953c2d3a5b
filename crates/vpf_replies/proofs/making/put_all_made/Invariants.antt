use Rattle.std.proofs.Common.{◌≡◌, ◌++◌, take, string_bytes}
use Rattle.std.specs.List.{flat_map}
use Rattle.vpf_replies.specs.Making.{made_line}
use Rattle.vpf_replies.proofs.making.put_all_made.Given as goal

abbrev pub invariant-loop-file : goal.invariant-loop-file
invariant-loop-file l = string_bytes l.text ≡ string_bytes l.initial.text ++ flat_map made_line (take l.file-index l.files)
