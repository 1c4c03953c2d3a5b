use Rattle.std.proofs.Common.{◌≡◌, ◌++◌, ◌-◌, ◌∙◌, length, min, ap, arith, rules}
use Rattle.std.proofs.lemmas.List.{length-append, with_items_is}
use borrow.Rule.Slice.PartMut.{put_mid}
use Rattle.vpf_write.specs.Inner.Turning.{turned_rows}
use Rattle.vpf_write.proofs.Blocks.{behind_turned, length-behind, block_put, no_more}
use Rattle.vpf_write.proofs.turning.put_turned.Goals as goal

pub loop-left-preserved : goal.loop-left-preserved
loop-left-preserved c =
    let fs = c.args.fields.now in
    let width = c.args.width in
    let was = c.loop-left.out.items in
    let block = c.split_at.result.0.now in
    let mid = c.deref_mut.result.now in
    let begun = c.len-begun.result in
    let y = c.turn_rows.new.rows in
    let made = put_mid begun (length mid - begun) mid y in
    let begins : begun ≡ length was = search rules in
    let whole : mid ≡ was ++ block = search rules in
    let now = behind_turned (turned_rows fs width) begun was block mid y begins whole c.turn_rows.ensures in
    let long : length made ≡ c.extend_from_slice.new.self.len = length-behind begun mid y (omega (arith, begins, ap length whole, length-append was block)) c.turn_rows.auto.rows ∙ c.deref_mut.ensures.len in
    let items = with_items_is c.extend_from_slice.new.self made long in
    let least : c.min.result ≡ min c.block_len-block_len.result (length c.loop-left.left.now) = search rules in
    rw items (block_put fs width c.block_len-block_len.result c.min.result c.loop-left.left.now was made block c.split_at.result.1.now _ c.requires.some c.block_len-block_len.ensures.whole least c.split_at.ensures.front c.split_at.ensures.back now c.loop-left.invariant)

pub returns : goal.returns
returns c =
    let none : length c.loop-left.left.now ≡ 0 = search rules in
    no_more c.args.fields.now c.args.width c.loop-left.left.now c.loop-left.out.items _ c.requires.some none c.loop-left.invariant
