use Rattle.std.proofs.Common.{◌≡◌, true, length, sym, ap, ◌∙◌}
use Rattle.vpf_darts.specs.Darts.{dart_code, tile_dart_code, flip}
use Rattle.vpf_darts.specs.Maps.{is_of_any, without}
use Rattle.vpf_darts.specs.MapLists.{is_among, dart_map, edges_of}
use Rattle.vpf_darts.proofs.RemovalLemmas.{untiled_same, are_lines}
use Rattle.vpf_darts.proofs.WithoutLemmas.{removed_stays}
use Rattle.vpf_darts.proofs.removing.next_left.Goals as goal

pub next_kept-requires-clause-edges : goal.next_kept-requires-clause-edges
next_kept-requires-clause-edges c = are_lines c.args.kept.now.map.now c.args.kept.now.lists c.args.kept.now.lines.now c.args.kept.now.one_each

pub returns-then-is_passed-clause-next : goal.returns-then-is_passed-clause-next
returns-then-is_passed-clause-next c =
    let m = dart_map c.args.kept.now.map.now in
    let lines = are_lines c.args.kept.now.map.now c.args.kept.now.lists c.args.kept.now.lines.now c.args.kept.now.one_each in
    let into : tile_dart_code c.into.result ≡ dart_code c.args.dart = ap tile_dart_code c.into.ensures in
    let passed : is_of_any flip (edges_of c.args.kept.now.lines.now) (dart_code c.args.dart) ≡ true = ap (is_of_any flip (edges_of c.args.kept.now.lines.now)) (sym into) ∙ sym c.is_passed.ensures ∙ c.if-is_passed.true in
    sym (removed_stays (dart_map c.args.kept.now.map.now) (edges_of c.args.kept.now.lines.now) (dart_code c.args.dart) c.args.kept.now.lists.is_map lines passed)

pub returns-else-is_passed-clause-has : goal.returns-else-is_passed-clause-has
returns-else-is_passed-clause-has c =
    let same : dart_code c.untiled.result ≡ tile_dart_code c.next_kept.result = ap dart_code c.untiled.ensures ∙ untiled_same c.args.kept.now.map.now c.args.kept.now.lists c.next_kept.result c.next_kept.ensures.has in
    ap (is_among (length c.args.kept.now.map.now.next)) same ∙ c.next_kept.ensures.has

pub returns-else-is_passed-clause-next : goal.returns-else-is_passed-clause-next
returns-else-is_passed-clause-next c =
    let same : dart_code c.untiled.result ≡ tile_dart_code c.next_kept.result = ap dart_code c.untiled.ensures ∙ untiled_same c.args.kept.now.map.now c.args.kept.now.lists c.next_kept.result c.next_kept.ensures.has in
    let into : tile_dart_code c.into-else-is_passed.result ≡ dart_code c.args.dart = ap tile_dart_code c.into-else-is_passed.ensures in
    same ∙ c.next_kept.ensures.next ∙ ap (without (dart_map c.args.kept.now.map.now) (edges_of c.args.kept.now.lines.now)).next into
