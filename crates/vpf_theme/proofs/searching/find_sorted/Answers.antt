use Rattle.std.proofs.Common.{◌≡◌, ◌+◌, ◌-◌, ◌/◌, sym, arith}
use Rattle.std.proofs.Common.{Less, Equal, Greater}
use Rattle.vpf_value.specs.Values.{view}
use Rattle.vpf_theme.specs.Ordering.{value_cmp}
use Rattle.vpf_theme.specs.Entries.{value_of}
use Rattle.vpf_theme.proofs.ComparedLemmas.{halved_less, halved_equal, halved_greater, halved_none}
use Rattle.vpf_theme.proofs.SearchLemmas.{Searched, below_more, above_more, sorted_place, sorted_none, tick_bound, tick_left}
use Rattle.vpf_theme.proofs.searching.find_sorted.Goals as goal

pub loop-low-preserved-in-Less : goal.loop-low-preserved-in-Less
loop-low-preserved-in-Less g c =
    let l = c.args.layout.now in
    let v = view c.args.value.now in
    let middle = c.loop-low.low + (c.loop-low.high - c.loop-low.low) / 2 in
    let i = c.loop-low.invariant in
    let s : Searched l c.args.bytes.now v = record { laws = c.fixed_cells.ensures; values = c.requires.values; faultless = c.requires.faultless; sorted = c.requires.sorted; fits = c.requires.fits } in
    let x : value_cmp (value_of l c.args.bytes.now middle) v ≡ Less = sym (rw c.sure_value.ensures at c.in-Less.ensures) in
    record {
      order = omega arith;
      inside = i.inside;
      below = below_more l c.args.bytes.now v middle s (omega arith) x;
      above = i.above;
      more = omega arith;
      left = tick_left c.args.steps.now c.loop-low.steps c.tick.new.self (c.loop-low.high - c.loop-low.low) _ l.entries c.tick.ensures i.more i.left (omega arith);
      cost = tick_bound c.args.steps.now c.loop-low.steps c.tick.new.self (c.loop-low.high - c.loop-low.low) l.entries c.tick.ensures i.more (omega arith) i.left;
      halved = halved_less l c.args.bytes.now v c.args.steps.now c.loop-low.steps c.tick.new.self c.loop-low.low c.loop-low.high c.tick.ensures i.more (omega arith) i.inside x i.halved;
    }

pub returns-in-Equal-clause-place : goal.returns-in-Equal-clause-place
returns-in-Equal-clause-place g c =
    let l = c.args.layout.now in
    let v = view c.args.value.now in
    let middle = c.loop-low.low + (c.loop-low.high - c.loop-low.low) / 2 in
    let s : Searched l c.args.bytes.now v = record { laws = c.fixed_cells.ensures; values = c.requires.values; faultless = c.requires.faultless; sorted = c.requires.sorted; fits = c.requires.fits } in
    let x : value_cmp (value_of l c.args.bytes.now middle) v ≡ Equal = sym (rw c.sure_value.ensures at c.in-Equal.ensures) in
    sorted_place l c.args.bytes.now v middle s (omega arith) x

pub returns-in-Equal-clause-cost : goal.returns-in-Equal-clause-cost
returns-in-Equal-clause-cost g c =
    let i = c.loop-low.invariant in
    tick_bound c.args.steps.now c.loop-low.steps c.tick.new.self (c.loop-low.high - c.loop-low.low) c.args.layout.now.entries c.tick.ensures i.more (omega arith) i.left

pub loop-low-preserved : goal.loop-low-preserved
loop-low-preserved g c =
    let l = c.args.layout.now in
    let v = view c.args.value.now in
    let middle = c.loop-low.low + (c.loop-low.high - c.loop-low.low) / 2 in
    let i = c.loop-low.invariant in
    let s : Searched l c.args.bytes.now v = record { laws = c.fixed_cells.ensures; values = c.requires.values; faultless = c.requires.faultless; sorted = c.requires.sorted; fits = c.requires.fits } in
    let x : value_cmp (value_of l c.args.bytes.now middle) v ≡ Greater = sym (rw c.sure_value.ensures at c.in-Greater.ensures) in
    record {
      order = omega arith;
      inside = omega arith;
      below = i.below;
      above = above_more l c.args.bytes.now v middle s (omega arith) x;
      more = omega arith;
      left = tick_left c.args.steps.now c.loop-low.steps c.tick.new.self (c.loop-low.high - c.loop-low.low) _ l.entries c.tick.ensures i.more i.left (omega arith);
      cost = tick_bound c.args.steps.now c.loop-low.steps c.tick.new.self (c.loop-low.high - c.loop-low.low) l.entries c.tick.ensures i.more (omega arith) i.left;
      halved = halved_greater l c.args.bytes.now v c.args.steps.now c.loop-low.steps c.tick.new.self c.loop-low.low c.loop-low.high c.tick.ensures i.more (omega arith) i.inside x i.halved;
    }

pub returns-clause-place : goal.returns-clause-place
returns-clause-place g c =
    let l = c.args.layout.now in
    let v = view c.args.value.now in
    let i = c.loop-low.invariant in
    let s : Searched l c.args.bytes.now v = record { laws = c.fixed_cells.ensures; values = c.requires.values; faultless = c.requires.faultless; sorted = c.requires.sorted; fits = c.requires.fits } in
    sorted_none l c.args.bytes.now v c.loop-low.low s i.below (λ j h k. i.above j (omega arith) k)

pub returns-in-Equal-clause-compared : goal.returns-in-Equal-clause-compared
returns-in-Equal-clause-compared g c =
    let l = c.args.layout.now in
    let v = view c.args.value.now in
    let i = c.loop-low.invariant in
    let x : value_cmp (value_of l c.args.bytes.now (c.loop-low.low + (c.loop-low.high - c.loop-low.low) / 2)) v ≡ Equal = sym (rw c.sure_value.ensures at c.in-Equal.ensures) in
    halved_equal l c.args.bytes.now v c.args.steps.now c.loop-low.steps c.tick.new.self c.loop-low.low c.loop-low.high c.tick.ensures i.more (omega arith) i.inside x i.halved

pub returns-clause-compared : goal.returns-clause-compared
returns-clause-compared g c =
    let i = c.loop-low.invariant in
    halved_none c.args.layout.now c.args.bytes.now (view c.args.value.now) c.args.steps.now c.loop-low.steps c.loop-low.low c.loop-low.high i.more (omega arith) i.halved
