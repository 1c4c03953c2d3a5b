use Rattle.std.proofs.Common.{◌≡◌, None, subst}
use Rattle.vpf_prims.specs.Coverages.{CoverageTables}
use Rattle.vpf_prims.specs.Libraries.{IsLibrary, library_of}
use Rattle.vpf_numbers.specs.TableLines.{coverage_numbers}
use Rattle.vpf_trace.specs.Inner.CheckedLaws.{checked_traceable}
use Rattle.vpf_trace.proofs.stepping.walks_pass_lines.Goals as goal

pub returns : goal.returns
returns c =
    checked_traceable (record {
      numbers = c.numbers_decide.ensures.coverage;
      cycles = c.cycles_decide.ensures;
      followers = c.followers_decide.ensures;
      flips = c.homes_flip_back.ensures;
    }) c.args.checked.now
    (subst (λ (v : CoverageTables). IsLibrary (library_of v)) c.coverage-coverage.ensures c.tiles_make_library.ensures)
    (subst (λ (v : CoverageTables). coverage_numbers v ≡ None) c.coverage-coverage.ensures c.numbers_hold.ensures)
    c.topology_holds.ensures
