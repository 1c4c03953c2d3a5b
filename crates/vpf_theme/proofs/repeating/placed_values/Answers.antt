use Rattle.std.proofs.Common.{refl}
use Rattle.vpf_theme.specs.declared.repeating.PlacedCell.{PlacedCell}
use Rattle.vpf_theme.proofs.RepeatLemmas.{placed_more}
use Rattle.vpf_theme.proofs.repeating.placed_values.Goals as goal

pub loop-place-preserved : goal.loop-place-preserved
loop-place-preserved c =
    let es = c.args.theme.now.entries in
    let l = c.loop-place in
    let p : PlacedCell = record { cell = c.value-cell.result; place = l.place } in
    placed_more es l.place l.placed.items c.push.new.self.items p l.invariant c.in_ok-push.ensures.items refl c.value-cell.ensures
