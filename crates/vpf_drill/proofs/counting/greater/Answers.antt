use Rattle.std.proofs.Common.{◌<◌, sym, arith}
use Rattle.std.proofs.Math.Nat.{max-eq_left, max-eq_right}
use Rattle.vpf_drill.proofs.counting.greater.Goals as goal

pub returns-then-a-b : goal.returns-then-a-b
returns-then-a-b c = sym (max-eq_right (let less : c.args.a < c.args.b = c.if-a-b.true in omega (arith, less)))

pub returns-else-a-b : goal.returns-else-a-b
returns-else-a-b c = sym (max-eq_left c.if-a-b.false)
