use Rattle.std.proofs.Common.{◌≡◌, ◌+◌, true, false, sym, ◌∙◌, arith}
use Rattle.vpf_prims.specs.Libraries.{library_of}
use Rattle.vpf_renumbering.proofs.glued_edges.CountLemmas.{count_none, row_step}
use Rattle.vpf_renumbering.proofs.glued_edges.counting.home_edges.Goals as goal
use Rattle.vpf_renumbering.proofs.glued_edges.counting.home_edges.Goals.{then-is_home, else-is_home}

pub loop-k-init : goal.loop-k-init
loop-k-init c = record { counted = count_none (library_of c.args.coverage.now) c.args.number; few = omega arith }

pub loop-k-preserved : goal.loop-k-preserved
loop-k-preserved c =
    let few = c.loop-k.invariant.few in
    elim c.if-is_home.branch [
      | then-is_home w ↦ (
          let is : c.if-is_home.count ≡ c.loop-k.count + 1 = w.count-is in
          record {
            counted = row_step (library_of c.args.coverage.now) c.args.number c.loop-k.k c.loop-k.count c.if-is_home.count true
                (sym c.is_home.ensures ∙ w.if-is_home.true) c.loop-k.invariant.counted is;
            few = omega arith;
          })
      | else-is_home w ↦ (
          let is : c.if-is_home.count ≡ c.loop-k.count = w.count-is in
          let zero_more : c.if-is_home.count ≡ c.loop-k.count + 0 = omega arith in
          record {
            counted = row_step (library_of c.args.coverage.now) c.args.number c.loop-k.k c.loop-k.count c.if-is_home.count false
                (sym c.is_home.ensures ∙ w.if-is_home.false) c.loop-k.invariant.counted zero_more;
            few = omega arith;
          })
    ]
