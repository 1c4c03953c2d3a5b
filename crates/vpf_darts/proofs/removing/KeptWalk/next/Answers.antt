use Rattle.std.proofs.Common.{◌≡◌, ◌∷◌, length, get_or, ap, ◌∙◌}
use Rattle.vpf_darts.specs.Darts.{dart_code, tile_dart_code}
use Rattle.vpf_darts.specs.MapLists.{is_among}
use Rattle.vpf_darts.proofs.RemovalLemmas.{untiled_same}
use Rattle.vpf_darts.proofs.removing.KeptWalk.next.Goals as goal

pub next-requires : goal.next-requires
next-requires c =
    let same : dart_code c.untiled.result ≡ tile_dart_code c.args.dart = ap dart_code c.untiled.ensures ∙ untiled_same c.args.self.now.map.now c.args.self.now.lists c.args.dart c.requires in
    ap (is_among (length c.args.self.now.map.now.next)) same ∙ c.requires

pub returns : goal.returns
returns c =
    let same : dart_code c.untiled.result ≡ tile_dart_code c.args.dart = ap dart_code c.untiled.ensures ∙ untiled_same c.args.self.now.map.now c.args.self.now.lists c.args.dart c.requires in
    ap tile_dart_code c.into.ensures ∙ c.next.ensures ∙ ap (λ d. get_or (0 ∷ 1 ∷ c.args.self.now.map.now.next) d d) same
