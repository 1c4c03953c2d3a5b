use Rattle.std.proofs.Common.{append_assoc}
use Rattle.vpf_table_commands.proofs.showing.put_description.Goals as goal

pub returns : goal.returns
returns c = rw (c.in_ok-push_str-2.ensures.bytes, c.in_ok-put_printed.ensures, c.in_ok-push_str.ensures.bytes) (simp append_assoc)
