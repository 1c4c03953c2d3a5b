use Rattle.std.proofs.Common.{◌/◌, length}
use Rattle.vpf_write.proofs.Pieces.{single_bytes}
use Rattle.vpf_write.proofs.turning.turn_field.Goals as goal

pub returns-in-One : goal.returns-in-One
returns-in-One c = rw (c.in-One.is) (single_bytes c.args.from (c.args.field.width / 1) (length c.args.rows.now / c.args.width) c.args.width c.args.rows.now)
