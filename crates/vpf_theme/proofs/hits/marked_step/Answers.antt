use Rattle.std.proofs.Common.{◌≡◌, ◌∙◌, sym, true, false, arith}
use Rattle.std.proofs.lemmas.Grind.{common_steps}
use Rattle.vpf_theme.specs.Entries.{is_marked}
use Rattle.vpf_theme.proofs.HitLemmas.{marked_yes, marked_no}
use Rattle.vpf_theme.proofs.hits.marked_step.Goals as goal

pub returns-then-is_marked : goal.returns-then-is_marked
returns-then-is_marked c =
    let set : is_marked c.args.bytes.now c.args.extent.offset c.loop-k.k ≡ true = grind (arith, common_steps) in
    sym c.loop-k.invariant ∙ marked_yes c.args.layout.now c.args.bytes.now c.args.extent c.loop-k.k (omega arith) set

pub loop-k-preserved : goal.loop-k-preserved
loop-k-preserved c =
    let clear : is_marked c.args.bytes.now c.args.extent.offset c.loop-k.k ≡ false = grind (arith, common_steps) in
    sym (marked_no c.args.layout.now c.args.bytes.now c.args.extent c.loop-k.k (omega arith) clear) ∙ c.loop-k.invariant
