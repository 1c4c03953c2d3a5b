use Rattle.std.proofs.Common.{◌≡◌, ◌∙◌, length}
use Rattle.std.proofs.lemmas.List.{with_items_is}
use Rattle.vpf_write.proofs.in_place.Turning.turn.Goals as goal

pub returns : goal.returns
returns c =
    let made = c.turn_over.new.bytes in
    let long : length made ≡ c.args.bytes.len = c.turn_over.auto.bytes ∙ c.deref_mut.ensures.len in
    let turned = rw (c.deref.ensures.value, c.deref-2.ensures.value, c.deref_mut.ensures.value) at c.turn_over.ensures in
    c.new.ensures ∙ with_items_is c.args.bytes made long ∙ turned
