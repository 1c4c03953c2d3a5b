use Rattle.vpf_head.specs.Inner.Views.{header_parts}
use Rattle.vpf_head.proofs.SoundLaws.{in_kind}
use Rattle.vpf_head.proofs.headers.Header.set_kind.Goals as goal

pub invariant_of-self : goal.invariant_of-self
invariant_of-self c =
    let one = rw (← c.self.view_is) at c.requires.one in
    record { named = c.set_kind.ensures.named; sound = rw c.set_kind.ensures.columns (in_kind (header_parts c.self.inside) c.args.c c.args.kind one c.requires.kind c.self.invariant.sound) }
