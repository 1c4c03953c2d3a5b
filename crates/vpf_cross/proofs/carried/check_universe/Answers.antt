use Rattle.std.proofs.Common.{sym}
use Rattle.vpf_cross.specs.Carrying.{difference_of}
use Rattle.vpf_cross.proofs.CarriedLemmas.{universe_line_absent, universe_line_there, no_difference, some_difference}
use Rattle.vpf_cross.proofs.carried.check_universe.Goals as goal

pub returns-in_default : goal.returns-in_default
returns-in_default c = universe_line_absent c.args.coverage.now c.args.number c.args.first c.args.tile.now c.requires.first (sym c.in_default.ensures)

pub returns-in-None : goal.returns-in-None
returns-in-None c =
    let line = universe_line_there c.args.coverage.now c.args.number c.args.first c.args.tile.now c.in-Some.there.now c.requires.first c.requires.tile (sym c.in-Some.ensures) in
    no_difference _ _ _ line c.in-None.ensures

pub returns-in-Some-universe_difference : goal.returns-in-Some-universe_difference
returns-in-Some-universe_difference c =
    let line = universe_line_there c.args.coverage.now c.args.number c.args.first c.args.tile.now c.in-Some.there.now c.requires.first c.requires.tile (sym c.in-Some.ensures) in
    rw (c.finding.ensures, c.table_at-at.ensures) (some_difference _ _ _ (difference_of c.in-Some-universe_difference.found) line c.in-Some-universe_difference.ensures)
