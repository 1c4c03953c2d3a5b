use Rattle.std.proofs.Common.{List, ℕ, sym, subst, ◌∙◌}
use Rattle.vpf_coverage.specs.Inner.Opening.OpensTiles.{OpensCoverage}
use Rattle.vpf_coverage.proofs.opening.opening.open_files.Goals as goal

pub open_coverage-requires : goal.open_coverage-requires
open_coverage-requires c =
    let folder = c.as_str.ensures.value ∙ c.in_ok-folder.ensures in
    let files = c.args.files in
    let coverage = c.requires.0 in (
      coverage,
      subst (λ (name : List ℕ). OpensCoverage name coverage files) (sym folder)
          (c.files_open.ensures c.args.lib.now c.args.cov.now coverage files c.requires.1),
    )

pub returns-clause-opened : goal.returns-clause-opened
returns-clause-opened c coverage h =
    let folder = c.as_str.ensures.value ∙ c.in_ok-folder.ensures in
    let files = c.args.files in
    c.open_coverage.ensures.opened coverage (subst (λ (name : List ℕ). OpensCoverage name coverage files) (sym folder)
    (c.files_open.ensures c.args.lib.now c.args.cov.now coverage files h))
