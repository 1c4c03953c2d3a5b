use Rattle.std.proofs.Common.{sym, subst, ◌∙◌}
use Rattle.std.proofs.lemmas.List.{length-map}
use Rattle.std.proofs.lemmas.Result.{err_from_is_err_and}
use Rattle.vpf_darts.specs.Listings.{numbers_of}
use Rattle.vpf_prims.specs.Coverages.{CoverageTables}
use Rattle.vpf_prims.specs.Libraries.{library_of}
use Rattle.vpf_trace.specs.Tracing.{IsTrace}
use Rattle.vpf_calling.proofs.Learnings.{unchecked}
use Rattle.vpf_calling.proofs.cycles.cycles_of.Goals as goal

pub returns-in_err-checked-clause-learned : goal.returns-in_err-checked-clause-learned
returns-in_err-checked-clause-learned c = λ x are.
    let p = err_from_is_err_and c.from_residual-in_err-checked.result c.from_residual-in_err-checked.ensures.1 in
    rw p.1 (unchecked (Unit {0}) x c.in_err-checked.field-0.0 p.0 p.2 (c.in_ok-coverage.ensures.first x are) (rw (c.in_ok-coverage.ensures.opened x are) at c.in_err-checked.ensures.first))

pub returns-clause-learned : goal.returns-clause-learned
returns-clause-learned c = λ x are.
    let same = c.in_ok-coverage.ensures.opened x are in
    let listing = c.in_ok-listing.listing in
    record {
      numbers = c.in_ok-coverage.ensures.first x are;
      topology = rw same at c.in_ok-checked.ensures.first;
      lists = numbers_of listing;
      cycles = subst (λ (v : CoverageTables). IsTrace (library_of v) (numbers_of listing)) (c.in_ok-checked.ensures.view ∙ same) c.in_ok-listing.ensures;
      count = length-map listing _ ∙ sym c.len.ensures;
    }
