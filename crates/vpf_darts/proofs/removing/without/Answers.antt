use Rattle.std.proofs.Common.{◌≡◌, ℕ, not, ◌&&◌, length, map, sym, ap, ◌∙◌, subst}
use Rattle.std.specs.List.{All, zip}
use Rattle.vpf_darts.specs.MapLists.{MapLists, AreMapLists, IsInRange}
use Rattle.vpf_darts.proofs.RemovalLemmas.{are_lists_left, same_map_left}
use Rattle.vpf_darts.proofs.removing.without.Goals as goal

pub invariant_of-nexts_left : goal.invariant_of-nexts_left
invariant_of-nexts_left c = record {
  lists = subst (λ (m : MapLists). AreMapLists m) c.map.view_is c.map.invariant.0;
  one_each = c.requires;
}

pub invariant_of-result : goal.invariant_of-result
invariant_of-result c =
    let lists : AreMapLists c.args.map.now = subst (λ (m : MapLists). AreMapLists m) c.map.view_is c.map.invariant.0 in
    let live_is : c.deref.result.now ≡ c.args.map.now.live = c.deref.ensures.value ∙ ap (λ (r : MapLists). r.live) c.map.view_is in
    let live : c.in_ok-live.live.items ≡ map (λ p. p.0 && not p.1) (zip c.args.map.now.live c.args.lines.now) = rw live_is at c.in_ok-live.ensures in
    let tail : c.in_ok-tail.tail.items ≡ c.args.map.now.tail = c.in_ok-tail.ensures.items ∙ c.deref-2.ensures.value ∙ ap (λ (r : MapLists). r.tail) c.map.view_is in
    let face : c.in_ok-face.face.items ≡ c.args.map.now.face = c.in_ok-face.ensures.items ∙ c.deref-3.ensures.value ∙ ap (λ (r : MapLists). r.face) c.map.view_is in
    let len : length c.in_ok-next.next.items ≡ length c.args.map.now.next = c.in_ok-next.ensures.len in (
      rw (live, tail, face) (are_lists_left c.args.map.now lists c.args.lines.now c.in_ok-next.next.items c.requires len c.in_ok-next.ensures.next),
      subst (λ (n : ℕ). All (IsInRange n) c.in_ok-next.next.items) (sym len) c.in_ok-next.ensures.in_range,
    )

pub returns-clause-left : goal.returns-clause-left
returns-clause-left c =
    let live_is : c.deref.result.now ≡ c.args.map.now.live = c.deref.ensures.value ∙ ap (λ (r : MapLists). r.live) c.map.view_is in
    let live : c.in_ok-live.live.items ≡ map (λ p. p.0 && not p.1) (zip c.args.map.now.live c.args.lines.now) = rw live_is at c.in_ok-live.ensures in
    rw live (same_map_left c.args.map.now c.args.lines.now c.in_ok-next.next.items c.requires c.in_ok-next.ensures.len c.in_ok-next.ensures.next)
