use Rattle.std.proofs.Common.{◌<◌, ◌^◌, arith}
use Rattle.vpf_cross.specs.Carrying.{difference_of}
use Rattle.vpf_cross.proofs.CarriedLemmas.{no_difference, some_difference}
use Rattle.vpf_cross.proofs.HomeLemmas.{carried_line_is}
use Rattle.vpf_cross.proofs.homes.check_cells.Goals as goal

pub returns-in-None : goal.returns-in-None
returns-in-None c =
    let small : c.args.dart.edge < 2 ^ 32 = omega arith in
    let home_small : c.args.home.edge < 2 ^ 32 = omega arith in
    let line = carried_line_is c.args.coverage.now c.args.dart c.args.home c.args.tile.now c.tile_of-there.result.now small home_small c.requires.tile c.tile_of-there.ensures.tile c.requires.copy in
    no_difference _ _ _ line c.in-None.ensures

pub returns-in-Some : goal.returns-in-Some
returns-in-Some c =
    let small : c.args.dart.edge < 2 ^ 32 = omega arith in
    let home_small : c.args.home.edge < 2 ^ 32 = omega arith in
    let line = carried_line_is c.args.coverage.now c.args.dart c.args.home c.args.tile.now c.tile_of-there.result.now small home_small c.requires.tile c.tile_of-there.ensures.tile c.requires.copy in
    rw (c.finding.ensures, c.table_at-at.ensures) (some_difference _ _ _ (difference_of c.in-Some.found) line c.in-Some.ensures)
