use Rattle.std.proofs.Common.{◌≡◌, ◌≢◌, length, get_or, ap, ◌∙◌, arith, subst, ℕ}
use Rattle.std.proofs.lemmas.List.{with_items_is}
use Rattle.vpf_wing.specs.Inner.NextPlaces.{next_in}
use Rattle.vpf_wing.specs.Inner.Leasts.{MarksCycle}
use Rattle.vpf_wing.proofs.MarkLemmas.{AreMarked, AreMarked-more, AreMarked-skip, AreMarked-all, any_default}
use Rattle.vpf_wing.proofs.leasts.least_places.Goals as goal
use Rattle.vpf_wing.proofs.leasts.least_places.Goals.{then-index-none, else-index-none}

pub loop-start-preserved : goal.loop-start-preserved
loop-start-preserved c =
    let n : ℕ = length c.args.nexts.now in
    elim c.if-index-none.branch [
      | then-index-none w ↦ (
          let was : w.deref_mut.result.now ≡ c.loop-start.leasts.items = w.deref_mut.ensures.value in
          let m : MarksCycle (next_in c.args.nexts.now) (length c.args.nexts.now) c.loop-start.start c.loop-start.leasts.items w.mark_cycle.new.leasts =
          rw was at w.mark_cycle.ensures in
          let kept : c.if-index-none.leasts.items ≡ w.mark_cycle.new.leasts =
          ap (λ v. v.items) w.leasts-is ∙ with_items_is c.loop-start.leasts w.mark_cycle.new.leasts (omega arith) in
          let len : length w.mark_cycle.new.leasts ≡ length c.args.nexts.now = omega (arith, c.loop-start.invariant.room) in
          rw kept (AreMarked-more (next_in c.args.nexts.now) n c.loop-start.start c.loop-start.leasts.items w.mark_cycle.new.leasts c.requires.apart (omega arith) len m c.loop-start.invariant))
      | else-index-none w ↦ (
          let other : get_or c.loop-start.leasts.items c.loop-start.start n ≢ n = λ e. (
          let same : get_or c.loop-start.leasts.items c.loop-start.start c.index.result.now ≡ n =
          any_default c.loop-start.leasts.items c.loop-start.start c.index.result.now n (omega (arith, c.loop-start.invariant.room)) ∙ e in
          let is : c.index.result.now ≡ n = c.index.ensures ∙ same in
          w.if-index-none.false is) in
          rw w.leasts-is (AreMarked-skip (next_in c.args.nexts.now) n c.loop-start.start c.loop-start.leasts.items other c.loop-start.invariant))
    ]

pub returns-clause-least : goal.returns-clause-least
returns-clause-least c =
    let n : ℕ = length c.args.nexts.now in
    let e : c.loop-start.start ≡ length c.args.nexts.now = omega arith in
    let all : AreMarked (next_in c.args.nexts.now) (length c.args.nexts.now) (length c.args.nexts.now) c.loop-start.leasts.items =
    subst (λ v. AreMarked (next_in c.args.nexts.now) (length c.args.nexts.now) v c.loop-start.leasts.items) e c.loop-start.invariant in
    AreMarked-all (next_in c.args.nexts.now) n c.loop-start.leasts.items c.requires.below all
