use Rattle.vpf_prims.specs.Lists.{kth}
use Rattle.vpf_prims.specs.Primitives.{absent_edge}
use Rattle.vpf_prims.specs.Reading.{primitives_of}
use Rattle.vpf_cross.proofs.HomeLemmas.{line_mark, same_marks}
use Rattle.vpf_cross.proofs.homes.have_same_mark.Goals as goal

pub returns : goal.returns
returns c =
    let numbered = ((c.numbers_decide.ensures.coverage c.args.coverage.now).0 c.numbers_hold.ensures).1 in
    let here = line_mark c.args.coverage.now numbered c.args.dart.tile c.args.dart.edge c.args.tile.now c.requires.tile c.requires.row in
    let there = line_mark c.args.coverage.now numbered c.args.home.tile c.args.home.edge c.args.there.now c.requires.there c.requires.row_there in
    rw (c.edge.ensures, c.edge-2.ensures) (same_marks (kth (primitives_of c.args.tile.now.tables).edges c.args.dart.edge absent_edge).mark
    (kth (primitives_of c.args.there.now.tables).edges c.args.home.edge absent_edge).mark here there)
