use Rattle.std.proofs.Common.{◌≡◌, true, false, arith}
use Rattle.std.proofs.lemmas.Grind.{common_steps}
use Rattle.vpf_theme.specs.Entries.{is_marked}
use Rattle.vpf_theme.proofs.HitLemmas.{marked_count_yes, marked_count_no}
use Rattle.vpf_theme.proofs.hits.count_marked.Goals as goal
use Rattle.vpf_theme.proofs.hits.count_marked.Goals.{then-is_marked, else-is_marked}

pub loop-k-preserved : goal.loop-k-preserved
loop-k-preserved c =
    elim c.if-is_marked.branch [
      | then-is_marked w ↦
          let set : is_marked c.args.bytes.now c.args.extent.offset c.loop-k.k ≡ true = grind (arith, common_steps) in
          record {
            counted = marked_count_yes c.args.layout.now c.args.bytes.now c.args.extent c.loop-k.k c.loop-k.marked c.if-is_marked.marked _ (omega arith) set w.marked-is c.loop-k.invariant.counted;
            few = omega arith;
          }
      | else-is_marked w ↦
          let clear : is_marked c.args.bytes.now c.args.extent.offset c.loop-k.k ≡ false = grind (arith, common_steps) in
          record {
            counted = marked_count_no c.args.layout.now c.args.bytes.now c.args.extent c.loop-k.k c.loop-k.marked c.if-is_marked.marked _ (omega arith) clear w.marked-is c.loop-k.invariant.counted;
            few = omega arith;
          }
    ]
