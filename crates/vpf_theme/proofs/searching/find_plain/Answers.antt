use Rattle.std.proofs.Common.{◌≡◌, ◌∙◌, sym, arith}
use Rattle.vpf_value.specs.Values.{view}
use Rattle.vpf_theme.specs.Entries.{value_of}
use Rattle.vpf_theme.proofs.ComparedLemmas.{turn_hit, turn_miss}
use Rattle.vpf_theme.proofs.SearchLemmas.{place_is, place_none}
use Rattle.vpf_theme.proofs.searching.find_plain.Goals as goal

pub returns-then-same-clause-place : goal.returns-then-same-clause-place
returns-then-same-clause-place g c =
    let is : value_of c.args.layout.now c.args.bytes.now c.loop-i.i ≡ view c.args.value.now = sym c.sure_value.ensures ∙ c.same.ensures.0 c.if-same.true in
    place_is c.args.layout.now c.args.bytes.now (view c.args.value.now) c.loop-i.i (omega arith) is c.loop-i.invariant.before

pub returns-clause-place : goal.returns-clause-place
returns-clause-place g c = place_none c.args.layout.now c.args.bytes.now (view c.args.value.now) (λ j h. c.loop-i.invariant.before j (omega arith))

pub returns-then-same-clause-compared : goal.returns-then-same-clause-compared
returns-then-same-clause-compared g c =
    let is : value_of c.args.layout.now c.args.bytes.now c.loop-i.i ≡ view c.args.value.now = sym c.sure_value.ensures ∙ c.same.ensures.0 c.if-same.true in
    rw (turn_hit c.args.layout.now c.args.bytes.now (view c.args.value.now) c.loop-i.i (omega arith) is c.loop-i.invariant.before) (omega (arith, c.tick.ensures, c.loop-i.invariant.cost))

pub returns-clause-compared : goal.returns-clause-compared
returns-clause-compared g c = rw (turn_miss c.args.layout.now c.args.bytes.now (view c.args.value.now) (λ j h. c.loop-i.invariant.before j (omega arith))) (omega (arith, c.loop-i.invariant.cost))
