use Rattle.std.proofs.Common.{◌<◌, ◌≤◌, ◌^◌, length, sym, ap, ◌∙◌, arith}
use Rattle.std.specs.Option.{option_map}
use Rattle.vpf_prims.specs.Coverages.{last_tile}
use Rattle.vpf_prims.specs.Reading.{primitives_of}
use Rattle.vpf_cross.proofs.AgreeLemmas.{tile_within}
use Rattle.vpf_cross.proofs.NextLemmas.{local_next_is, number_in}
use Rattle.vpf_cross.proofs.rounds.next_in.Goals as goal

pub returns-in_err-next : goal.returns-in_err-next
returns-in_err-next c =
    let last = tile_within c.args.followed.now c.args.dart.tile c.args.tile.now c.requires.tile in
    let low : c.args.dart.tile ≤ last_tile c.args.followed.now = omega arith in
    let few : length (primitives_of c.args.tile.now.tables).edges < 2 ^ 24 = omega (arith, c.edges-edges.ensures.value, c.edges-edges.ensures.few) in
    let local = local_next_is c.args.followed.now c.args.dart.tile c.args.tile.now c.args.dart.edge c.args.dart.minus c.requires.tile low few c.names_its_own.ensures c.requires.row in
    rw c.from_residual.ensures (sym (local ∙ ap (option_map (number_in c.args.dart.tile)) (sym c.in_err-next.ensures)))

pub returns : goal.returns
returns c =
    let last = tile_within c.args.followed.now c.args.dart.tile c.args.tile.now c.requires.tile in
    let low : c.args.dart.tile ≤ last_tile c.args.followed.now = omega arith in
    let few : length (primitives_of c.args.tile.now.tables).edges < 2 ^ 24 = omega (arith, c.edges-edges.ensures.value, c.edges-edges.ensures.few) in
    let local = local_next_is c.args.followed.now c.args.dart.tile c.args.tile.now c.args.dart.edge c.args.dart.minus c.requires.tile low few c.names_its_own.ensures c.requires.row in
    sym (local ∙ ap (option_map (number_in c.args.dart.tile)) (sym c.in_ok-next.ensures))
