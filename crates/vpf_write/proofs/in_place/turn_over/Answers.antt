use Rattle.std.proofs.Common.{◌++◌, length, drop, refl}
use Rattle.vpf_write.specs.Inner.Turning.{turned_rows}
use Rattle.vpf_write.proofs.Blocks.{behind_turned}
use Rattle.vpf_write.proofs.in_place.turn_over.Goals as goal

pub returns : goal.returns
returns c =
    let front = c.args.front.now in
    let rest = drop (length front) c.args.bytes.now in
    let mid = c.copy_from_slice.new.self ++ rest in
    behind_turned (turned_rows c.args.fields.now c.args.width) (length front) front rest mid c.turn_blocks.new.rows refl (rw (c.copy_from_slice.ensures.after) refl) c.turn_blocks.ensures
