use Rattle.std.proofs.Common.{◌≡◌, ◌≤◌, [], length, ap, ◌∙◌, arith, rules}
use Rattle.std.proofs.lemmas.Grind.{common_steps}
use Rattle.std.proofs.lemmas.List.Elements.{All-push}
use Rattle.vpf_darts.specs.Maps.{without}
use Rattle.vpf_darts.specs.MapLists.{IsInRange, dart_map, edges_of}
use Rattle.vpf_darts.proofs.ReadLemmas.{edge_bounds}
use Rattle.vpf_darts.proofs.RemovalLemmas.{next_at_start, next_pushed, next_at_end}
use Rattle.vpf_darts.proofs.removing.nexts_left.Goals as goal

pub loop-place-init : goal.loop-place-init
loop-place-init c =
    let none : c.in_ok-nexts.nexts.items ≡ [] = c.in_ok-nexts.ensures.items in
    rw none (record {
      pushed = search rules;
      in_range = λ k d h. absurd (omega arith);
      left = next_at_start c.args.kept.now.map.now c.args.kept.now.lists c.args.kept.now.lines.now c.args.kept.now.one_each;
    })

pub loop-place-preserved : goal.loop-place-preserved
loop-place-preserved c =
    let b : (1 ≤ c.next_left.result.edge) × (c.next_left.result.edge ≤ length c.args.kept.now.map.now.live) = edge_bounds (length c.args.kept.now.map.now.next) (length c.args.kept.now.map.now.live) c.next_left.result c.args.kept.now.lists.darts c.next_left.ensures.has in
    let range : IsInRange (length c.args.kept.now.map.now.next) c.next_left.result = (b.0, omega (arith, b.1, c.args.kept.now.lists.darts)) in
    record {
      pushed = grind (arith, common_steps);
      in_range = rw c.in_ok-push.ensures.items (All-push (IsInRange (length c.args.kept.now.map.now.next)) c.loop-place.nexts.items c.next_left.result c.loop-place.invariant.in_range range);
      left = rw c.in_ok-push.ensures.items (next_pushed c.loop-place.nexts.items c.next_left.result c.loop-place.place (without (dart_map c.args.kept.now.map.now) (edges_of c.args.kept.now.lines.now)).next c.loop-place.invariant.pushed c.loop-place.invariant.left
          (c.next_left.ensures.next ∙ ap (without (dart_map c.args.kept.now.map.now) (edges_of c.args.kept.now.lines.now)).next c.of_number.ensures));
    }

pub returns-clause-len : goal.returns-clause-len
returns-clause-len c = omega (arith, c.loop-place.invariant.pushed, c.args.kept.now.lists.darts, c.args.kept.now.one_each)

pub returns-clause-next : goal.returns-clause-next
returns-clause-next c = next_at_end c.args.kept.now.map.now c.args.kept.now.lists c.args.kept.now.lines.now c.args.kept.now.one_each c.loop-place.nexts.items c.loop-place.place c.loop-place.invariant.pushed c.loop-place-test.false c.loop-place.invariant.left
