use Rattle.std.proofs.Common.{arith}
use Rattle.vpf_theme_build.proofs.TextLemmas.{name_inside, name_past}
use Rattle.vpf_theme_build.proofs.heading.put_spaced.Goals as goal
use Rattle.vpf_theme_build.proofs.heading.put_spaced.Goals.{then-i-name, else-i-name}

pub loop-i-preserved : goal.loop-i-preserved
loop-i-preserved c =
    elim c.if-i-name.branch [
      | then-i-name w ↦ name_inside c.args.name.now c.args.len c.loop-i.i c.if-i-name.byte c.loop-i.out.items c.push.new.self.items c.args.out.now.items (omega arith) w.if-i-name.true w.byte-is c.in_ok-push.ensures.items c.loop-i.invariant
      | else-i-name w ↦ name_past c.args.name.now c.args.len c.loop-i.i c.if-i-name.byte c.loop-i.out.items c.push.new.self.items c.args.out.now.items (omega arith) (omega (arith, w.if-i-name.false)) w.byte-is c.in_ok-push.ensures.items c.loop-i.invariant
    ]
