use Rattle.std.proofs.Common.{◌≡◌, ◌/◌, [], replicate, true, rules, length}
use Rattle.vpf_darts.specs.Maps.{IsMap}
use Rattle.vpf_darts.specs.MapLists.{dart_map, lists_of}
use Rattle.vpf_darts.proofs.NextLemmas.{are_map_lists}
use Rattle.vpf_darts.proofs.maps.Map.new.Goals as goal

pub invariant_of-result : goal.invariant_of-result
invariant_of-result c =
    let live : c.in_ok-live.live.items ≡ replicate (length c.args.next.items / 2) true = search rules in
    let is_map : IsMap (dart_map (lists_of c.args.next.items [] [])) = search rules in
    (rw live (are_map_lists c.args.next.items c.args.tail.items c.args.face.items c.requires.lists is_map), c.requires.lists.in_range)

pub returns-clause-permutation : goal.returns-clause-permutation
returns-clause-permutation c =
    let is_map : IsMap (dart_map (lists_of c.args.next.items [] [])) = search rules in
    is_map
