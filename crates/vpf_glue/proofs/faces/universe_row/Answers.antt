use Rattle.vpf_prims.specs.Coverages.{CoverageTables}
use Rattle.vpf_prims.specs.Reading.{PrimitiveTables}
use Rattle.std.proofs.Common.{subst}
use Rattle.vpf_glue.specs.Inner.Sources.{IsRight}
use Rattle.vpf_glue.proofs.SourceLemmas.{like_own, universe_listed}
use Rattle.vpf_glue.proofs.faces.universe_row.Goals as goal

pub row_of-requires : goal.row_of-requires
row_of-requires c = universe_listed c.args.faces.now c.args.like.now (subst IsRight c.checked.ensures c.numbers_are_right.ensures) c.requires

pub returns-clause-fits : goal.returns-clause-fits
returns-clause-fits c = λ k n.
    c.rows_of_tiles_fit.ensures.faces c.args.faces.now c.args.like.now c.args.like.now
    (like_own (λ (T : PrimitiveTables). T.fac) c.args.faces.now c.args.like.now (subst IsRight c.checked.ensures c.numbers_are_right.ensures) c.requires) k n c.row_of.result c.row_of.ensures.fits
