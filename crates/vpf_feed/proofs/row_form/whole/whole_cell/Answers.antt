use Rattle.std.proofs.Common.{◌≤◌, length, sym, arith}
use Rattle.vpf_feed.proofs.row_form.Passing.{told_whole}
use Rattle.vpf_feed.proofs.row_form.whole.whole_cell.Goals as goal

pub returns-then-len-bytes : goal.returns-then-len-bytes
returns-then-len-bytes c =
    let inside : c.in-Some.len ≤ length c.args.bytes.now = omega (arith, c.if-len-bytes.true) in
    record { inside = inside; size = told_whole c.args.order c.args.field c.args.bytes.now c.in-Some.len (sym c.in-Some.ensures.value) inside }
