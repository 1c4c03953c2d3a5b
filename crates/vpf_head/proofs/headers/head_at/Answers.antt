use Rattle.std.proofs.Common.{◌≡◌, Ok, rules}
use Rattle.vpf_head.specs.Reading.{head_at}
use Rattle.vpf_head.specs.Inner.Views.{header_parts}
use Rattle.vpf_head.proofs.SoundLaws.{head_sound}
use Rattle.vpf_head.proofs.headers.head_at.Goals as goal

pub invariant_of-header : goal.invariant_of-header
unfolding head_at
invariant_of-header c =
    let read : head_at c.args.order c.args.text.now ≡ Ok (header_parts (record { order = c.args.order; description = c.in_ok-description.description.text; narrative = c.present.result; columns = c.in_ok-columns.columns }), c.in_ok-end.end) = search rules in
    record { named = c.in_ok-columns.ensures.named; sound = head_sound c.args.order c.args.text.now _ c.in_ok-end.end c.requires.short read }
