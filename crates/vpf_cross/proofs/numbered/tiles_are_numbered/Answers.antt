use Rattle.vpf_cross.proofs.ElsewhereLemmas.{faces_elsewhere}
use Rattle.vpf_cross.proofs.numbered.tiles_are_numbered.Goals as goal

pub returns-clause-few : goal.returns-clause-few
returns-clause-few c = c.tiles_make_library.ensures.few

pub returns-clause-elsewhere : goal.returns-clause-elsewhere
returns-clause-elsewhere c = faces_elsewhere c.args.coverage.now ((c.numbers_decide.ensures.coverage c.args.coverage.now).0 c.numbers_hold.ensures).1
