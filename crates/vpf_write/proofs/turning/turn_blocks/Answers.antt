use Rattle.std.proofs.Common.{◌≡◌, ◌+◌, ◌-◌, length, min, refl, rules}
use Rattle.vpf_write.proofs.Blocks.{none_turned, block_turned, all_turned}
use Rattle.vpf_write.proofs.turning.turn_blocks.Goals as goal

pub loop-at-init : goal.loop-at-init
loop-at-init c = none_turned c.args.fields.now c.args.width c.args.rows.now

pub loop-at-preserved : goal.loop-at-preserved
loop-at-preserved c =
    let past : c.loop-at.at + c.min.result ≡ c.loop-at.at + min c.block_len-block_len.result (length c.loop-at.rows - c.loop-at.at) = search rules in
    block_turned c.args.fields.now c.args.width c.block_len-block_len.result c.loop-at.at _ _ c.loop-at.rows c.turn_rows.new.rows _ c.requires.some c.block_len-block_len.ensures.whole past refl c.turn_rows.ensures c.turn_rows.auto.rows c.loop-at.invariant

pub returns : goal.returns
returns c = all_turned c.args.fields.now c.args.width c.loop-at.at c.loop-at.rows _ c.requires.some c.loop-at-test.false c.loop-at.invariant
