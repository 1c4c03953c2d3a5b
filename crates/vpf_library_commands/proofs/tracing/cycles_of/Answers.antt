use Rattle.std.proofs.Common.{◌≡◌, sym, subst, ◌∙◌}
use Rattle.std.proofs.lemmas.Result.{err_from_is_err_and}
use Rattle.vpf_darts.specs.Listings.{numbers_of}
use Rattle.vpf_prims.specs.Coverages.{CoverageTables}
use Rattle.vpf_prims.specs.Libraries.{library_of}
use Rattle.vpf_library_files.specs.Loading.Loading.{within}
use Rattle.vpf_trace.specs.Tracing.{IsTrace}
use Rattle.vpf_library_commands.proofs.CheckAnswers.{found_featured}
use Rattle.vpf_library_commands.proofs.tracing.cycles_of.Goals as goal

pub returns-in_err-checked-clause-first : goal.returns-in_err-checked-clause-first
returns-in_err-checked-clause-first c read are =
    let request = c.args.request.now in
    let p = err_from_is_err_and c.from_residual-in_err-checked.result c.from_residual-in_err-checked.ensures.1 in
    rw (
      p.1,
      p.2,
      ← found_featured (within request.lib request.cov) c.files.result.now c.in_ok-coverage.coverage read (c.in_ok-coverage.ensures.first read are)
          (c.in_ok-coverage.ensures.opened read are) (c.files.ensures ∙ are.listed),
    ) c.in_err-checked.ensures.first

pub returns-clause-first : goal.returns-clause-first
returns-clause-first c read are =
    let request = c.args.request.now in
    sym (found_featured (within request.lib request.cov) c.files.result.now c.in_ok-coverage.coverage read (c.in_ok-coverage.ensures.first read are)
    (c.in_ok-coverage.ensures.opened read are) (c.files.ensures ∙ are.listed)) ∙ c.in_ok-checked.ensures.first

pub returns-clause-cycles : goal.returns-clause-cycles
returns-clause-cycles c read are =
    let same : c.in_ok-checked.checked ≡ read.coverage.coverage = c.in_ok-checked.ensures.checked ∙ c.in_ok-coverage.ensures.opened read are in
    subst (λ (x : CoverageTables). IsTrace (library_of x) (numbers_of c.in_ok-trace.field-0)) same c.in_ok-trace.ensures
