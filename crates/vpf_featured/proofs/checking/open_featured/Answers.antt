use Rattle.std.proofs.Common.{◌≡◌, None}
use Rattle.vpf_numbers.specs.TableLines.{coverage_numbers}
use Rattle.vpf_featured.specs.Finding.{placed_finding}
use Rattle.vpf_featured.proofs.FindingLemmas.{placed_same, tells_behind}
use Rattle.vpf_featured.proofs.checking.open_featured.Goals as goal

pub returns-in-Ok-clause-first : goal.returns-in-Ok-clause-first
returns-in-Ok-clause-first c read are =
    let none : placed_finding read.coverage.files (coverage_numbers read.coverage.coverage) ≡ None =
    placed_same c.args.files.now.coverage read.coverage.files (coverage_numbers read.coverage.coverage) are.listed
    (c.in-Ok.ensures.first read.coverage.coverage are.coverage) in
    tells_behind _ c.with_features.result _ _ none (c.with_features.ensures.first read.schema are.features)

pub returns-in-Ok-clause-coverage : goal.returns-in-Ok-clause-coverage
returns-in-Ok-clause-coverage c read are =
    rw (← c.in-Ok.ensures.opened read.coverage.coverage are.coverage) c.with_features.ensures.coverage
