use Rattle.std.proofs.Common.{◌≡◌, ◌≤◌, length, map, true, rules}
use Rattle.vpf_darts.specs.Darts.{dart_code}
use Rattle.vpf_darts.specs.MapLists.{is_among}
use Rattle.vpf_darts.proofs.ReadLemmas.{edge_bounds, live_read}
use Rattle.vpf_darts.proofs.maps.Map.is_live.Goals as goal

pub overflow_sub-dart : goal.overflow_sub-dart
overflow_sub-dart c =
    let i = c.self.inside in
    let has : is_among (length (map dart_code i.next.items)) (dart_code c.args.dart) ≡ true = rw (← c.self.view_is) at c.requires in
    (edge_bounds (length (map dart_code i.next.items)) (length i.live.items) c.args.dart c.self.invariant.0.darts has).0

pub index-requires : goal.index-requires
index-requires c =
    let i = c.self.inside in
    let has : is_among (length (map dart_code i.next.items)) (dart_code c.args.dart) ≡ true = rw (← c.self.view_is) at c.requires in
    let b : (1 ≤ c.args.dart.edge) × (c.args.dart.edge ≤ length i.live.items) = edge_bounds (length (map dart_code i.next.items)) (length i.live.items) c.args.dart c.self.invariant.0.darts has in
    search rules

pub returns : goal.returns
returns c =
    let i = c.self.inside in
    let has : is_among (length (map dart_code i.next.items)) (dart_code c.args.dart) ≡ true = rw (← c.self.view_is) at c.requires in
    let b : (1 ≤ c.args.dart.edge) × (c.args.dart.edge ≤ length i.live.items) = edge_bounds (length (map dart_code i.next.items)) (length i.live.items) c.args.dart c.self.invariant.0.darts has in
    rw (← c.self.view_is) (live_read i.live.items c.args.dart c.index.result.now b.0 b.1 c.index.ensures)
