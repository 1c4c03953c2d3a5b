use Rattle.std.proofs.Common.{◌≡◌, ◌++◌, drop, string_bytes}
use Rattle.vpf_replies.specs.Listings.{cycle_lines}
use Rattle.vpf_replies.proofs.listings.put_cycles.Given as goal

abbrev pub invariant-loop-i : goal.invariant-loop-i
invariant-loop-i l = string_bytes l.text ++ cycle_lines (drop l.i l.listing) ≡ string_bytes l.fn.text ++ cycle_lines l.listing
