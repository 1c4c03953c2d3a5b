use Rattle.std.proofs.Common.{◌∙◌, ◌+◌, ◌∷◌, [], ℕ, length, ap}
use Rattle.std.proofs.lemmas.List.{length-append}
use Rattle.vpf_head.specs.Inner.Views.{col}
use Rattle.vpf_table.proofs.OffsetLaws.{width_more, offsets_more}
use Rattle.vpf_table.proofs.placed_header.PlacedHeader.offsets_of.Goals as goal

pub loop-c-preserved : goal.loop-c-preserved
loop-c-preserved c =
    let cols = c.args.header.now.columns in
    let l = c.loop-c in
    let more = c.in-Some.ensures in
    record {
      are = rw c.in_ok-push.ensures.items (offsets_more cols l.offsets.items l.c l.offset l.invariant.are l.invariant.each l.invariant.width);
      each = ap length c.in_ok-push.ensures.items ∙ length-append l.offsets.items (l.offset ∷ []) ∙ ap (λ (n : ℕ). n + 1) l.invariant.each;
      width = rw more.2 (width_more cols l.c l.offset more.0 (col c.at.result.now) c.at.ensures l.invariant.width more.1);
    }

pub returns-in_default : goal.returns-in_default
returns-in_default c =
    let l = c.loop-c in
    rw c.in_ok-push.ensures.items (offsets_more c.args.header.now.columns l.offsets.items l.c l.offset l.invariant.are l.invariant.each l.invariant.width)
