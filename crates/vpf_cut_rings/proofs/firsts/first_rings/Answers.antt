use Rattle.std.proofs.Common.{◌≡◌, ℕ, ◌+◌, ◌&&◌, ltb, eqb, arith, length, get_or, take, drop, ◌++◌}
use Rattle.std.proofs.lemmas.List.{with_items_is}
use Rattle.vpf_cut_rings.specs.declared.rings.CutRing.{CutRing}
use Rattle.vpf_cut_rings.specs.Inner.Rings.{first_with}
use Rattle.vpf_cut_rings.proofs.FirstLemmas.{all_inside, hold_all, hold_more}
use Rattle.vpf_cut_rings.proofs.firsts.first_rings.Goals as goal

pub loop-k-preserved : goal.loop-k-preserved
loop-k-preserved c =
    let none : CutRing = record { face = 0; edge = 0 } in
    let kept : take c.loop-k.firsts.len (c.put_first.new.firsts ++ drop (length c.put_first.new.firsts) c.loop-k.firsts.items) ≡ c.put_first.new.firsts =
    with_items_is c.loop-k.firsts c.put_first.new.firsts (omega arith) in
    let put : (i : ℕ) → get_or c.put_first.new.firsts i 0
    ≡ first_with (get_or c.loop-k.firsts.items i 0) (ltb i (length c.loop-k.firsts.items) && eqb (get_or c.args.rings.now c.loop-k.k none).face (i + 1)) (c.loop-k.k + 1) =
    rw c.deref_mut.ensures.value at c.put_first.ensures in
    rw kept (record {
      len = omega (arith, c.loop-k.invariant.len);
      hold = hold_more c.args.faces c.loop-k.k c.args.rings.now c.loop-k.firsts.items c.put_first.new.firsts none c.loop-k-test.true c.loop-k.invariant.len c.loop-k.invariant.hold put;
    })

pub returns-clause-firsts : goal.returns-clause-firsts
returns-clause-firsts c =
    hold_all c.args.faces c.loop-k.k c.args.rings.now c.loop-k.firsts.items (omega arith) c.loop-k.invariant.len c.loop-k.invariant.hold

pub returns-clause-few : goal.returns-clause-few
returns-clause-few c =
    all_inside c.args.faces c.loop-k.k c.args.rings.now c.loop-k.firsts.items (omega arith) c.loop-k.invariant.len c.loop-k.invariant.hold
