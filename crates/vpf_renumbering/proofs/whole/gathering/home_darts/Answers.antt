use Rattle.std.proofs.Common.{subst}
use Rattle.std.proofs.lemmas.Result.{IfOk-weaker}
use Rattle.vpf_prims.specs.Coverages.{CoverageTables}
use Rattle.vpf_prims.specs.Libraries.{IsLibrary, library_of}
use Rattle.vpf_wing.specs.Links.{links_of}
use Rattle.vpf_renumbering.specs.Inner.Whole.Gathering.{AreHomeAmong}
use Rattle.vpf_renumbering.proofs.whole.OrderLemmas.{gathered_all}
use Rattle.vpf_renumbering.proofs.whole.gathering.home_darts.Goals as goal

pub returns : goal.returns
returns c =
    let lib : IsLibrary (library_of c.args.checked.now) = subst (λ (v : CoverageTables). IsLibrary (library_of v)) c.coverage-coverage.ensures c.tiles_make_library.ensures in
    IfOk-weaker c.gathered.result _ _ (λ darts h. gathered_all (library_of c.args.checked.now) lib.few darts.items
    (subst (λ (v : CoverageTables). AreHomeAmong (library_of v) (links_of (library_of v)).darts darts.items) c.coverage-coverage.ensures h)) c.gathered.ensures
