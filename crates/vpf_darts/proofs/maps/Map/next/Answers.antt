use Rattle.std.proofs.Common.{◌≡◌, ◌-◌, length, map, true, get_or, ap, ◌∙◌}
use Rattle.vpf_darts.specs.Darts.{dart_code}
use Rattle.vpf_darts.specs.MapLists.{is_among}
use Rattle.vpf_darts.proofs.ReadLemmas.{next_read}
use Rattle.vpf_darts.proofs.maps.Map.next.Goals as goal

pub returns : goal.returns
returns c =
    let i = c.self.inside in
    let has : is_among (length (map dart_code i.next.items)) (dart_code c.args.dart) ≡ true = rw (← c.self.view_is) at c.requires in
    let read : c.index.result.now ≡ get_or i.next.items (dart_code c.args.dart - 2) c.index.result.now = c.index.ensures ∙ ap (λ k. get_or i.next.items (k - 2) c.index.result.now) c.number.ensures in
    rw (← c.self.view_is) (next_read i.next.items c.args.dart c.index.result.now has read)
