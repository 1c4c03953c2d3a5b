use Rattle.std.proofs.Common.{◌+◌, arith}
use Rattle.vpf_write.proofs.WriteLimits.{limit-told}
use Rattle.vpf_write.proofs.writing.limit_of.Goals as goal

pub returns : goal.returns
returns c = rw c.limit_by.ensures (limit-told c.args.text c.args.rows c.saturating_add-size.result (4 + c.args.text + c.args.rows_len) c.args.varies (omega arith))
