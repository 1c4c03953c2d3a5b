use Rattle.std.proofs.Common.{◌≡◌, None, subst}
use Rattle.vpf_prims.specs.Coverages.{CoverageTables}
use Rattle.vpf_prims.specs.Libraries.{IsLibrary, library_of}
use Rattle.vpf_numbers.specs.TableLines.{coverage_numbers}
use Rattle.vpf_glue.proofs.sources.numbers_are_right.Goals as goal

pub returns : goal.returns
returns c =
    let both = (c.numbers_decide.ensures.coverage c.args.checked.now).0
    (subst (λ (v : CoverageTables). coverage_numbers v ≡ None) c.coverage-coverage.ensures c.numbers_hold.ensures) in
    record {
      library = subst (λ (v : CoverageTables). IsLibrary (library_of v)) c.coverage-coverage.ensures c.tiles_make_library.ensures;
      columns = both.0;
      numbered = both.1;
    }
