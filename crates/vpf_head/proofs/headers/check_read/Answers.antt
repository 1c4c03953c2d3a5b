use Rattle.std.proofs.Common.{arith}
use Rattle.vpf_head.specs.Inner.Views.{head_given}
use Rattle.vpf_head.proofs.Canonicals.{length-text}
use Rattle.vpf_head.proofs.headers.check_read.Goals as goal

pub next_after_text-requires : goal.next_after_text-requires
next_after_text-requires c = omega (arith, length-text (head_given c.args.parts.now), c.requires)

pub next_after_name-requires : goal.next_after_name-requires
next_after_name-requires c = omega (arith, length-text (head_given c.args.parts.now), c.requires, c.in_ok-narrative.ensures.next)

pub past_columns-requires : goal.past_columns-requires
past_columns-requires c = omega (arith, length-text (head_given c.args.parts.now), c.requires, c.in_ok-narrative.ensures.next, c.in_ok-columns.ensures.next)
