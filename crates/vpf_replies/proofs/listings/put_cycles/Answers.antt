use Rattle.std.proofs.Common.{◌∙◌, string_bytes}
use Rattle.vpf_replies.proofs.CycleLines.{cycle_put}
use Rattle.vpf_replies.proofs.listings.put_cycles.Goals as goal

pub loop-i-preserved : goal.loop-i-preserved
loop-i-preserved c = rw (c.in_ok-push_str.ensures.bytes, c.in_ok-put_cycle.ensures) (cycle_put (string_bytes c.loop-i.text) c.args.listing.now c.loop-i.i c.at.result.now c.at.ensures ∙ c.loop-i.invariant)
