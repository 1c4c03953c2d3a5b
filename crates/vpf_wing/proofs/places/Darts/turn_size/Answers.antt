use Rattle.std.proofs.Common.{◌≡◌, ◌<◌, ◌+◌, ◌*◌, length, get_or, List, arith, ◌∙◌, sym, ap, subst}
use Rattle.vpf_prims.specs.declared.rows.Edge.{Edge}
use Rattle.vpf_wing.specs.Inner.NextPlaces.{AreNextPlaces}
use Rattle.vpf_wing.specs.Places.{turn_place}
use Rattle.vpf_wing.proofs.PlaceLemmas.{turn_step, turn_below, steps_back-stop, steps_back-more}
use Rattle.vpf_wing.proofs.places.Darts.turn_size.Goals as goal

pub returns-then-at-start : goal.returns-then-at-start
returns-then-at-start c =
    let edges = c.args.self.now in
    let nexts = c.self.inside.nexts.items in
    let are : AreNextPlaces edges nexts = subst (λ (es : List Edge). AreNextPlaces es nexts) c.self.view_is c.self.invariant in
    let v = c.index-at.result.now in
    let to : get_or nexts c.flip_place.result v ≡ turn_place edges c.loop-k.at =
    ap (λ i. get_or nexts i v) c.flip_place.ensures ∙ turn_step edges nexts c.loop-k.at v are c.loop-k.invariant.inside in
    let is : turn_place edges c.loop-k.at ≡ c.args.start = sym (c.index-at.ensures ∙ to) ∙ c.if-at-start.true in
    let k : c.loop-k.k < 2 * length edges = omega (arith, are.count) in
    ap (λ v. c.loop-k.k + v) (sym (steps_back-stop (turn_place edges) c.args.start (2 * length edges) c.loop-k.k c.loop-k.at k is)) ∙ c.loop-k.invariant.steps

pub loop-k-preserved : goal.loop-k-preserved
loop-k-preserved c =
    let edges = c.args.self.now in
    let nexts = c.self.inside.nexts.items in
    let are : AreNextPlaces edges nexts = subst (λ (es : List Edge). AreNextPlaces es nexts) c.self.view_is c.self.invariant in
    let v = c.index-at.result.now in
    let to : get_or nexts c.flip_place.result v ≡ turn_place edges c.loop-k.at =
    ap (λ i. get_or nexts i v) c.flip_place.ensures ∙ turn_step edges nexts c.loop-k.at v are c.loop-k.invariant.inside in
    let is : c.index-at.result.now ≡ turn_place edges c.loop-k.at = c.index-at.ensures ∙ to in
    let k : c.loop-k.k < 2 * length edges = omega (arith, are.count) in
    let more = steps_back-more (turn_place edges) c.args.start (2 * length edges) c.loop-k.k c.loop-k.at k (λ e. c.if-at-start.false (is ∙ e)) in
    rw is (record {
      inside = turn_below edges nexts c.loop-k.at are c.loop-k.invariant.inside;
      steps = (let s = c.loop-k.invariant.steps in omega (arith, more));
    })
