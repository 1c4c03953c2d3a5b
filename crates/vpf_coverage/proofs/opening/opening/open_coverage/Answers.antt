use Rattle.std.proofs.Common.{◌≡◌, subst}
use Rattle.std.specs.Prelude.{IfOk}
use Rattle.vpf_prims.specs.Coverages.{CoverageTables}
use Rattle.vpf_coverage.specs.declared.opening.opening.OpenCoverage.{OpenCoverage}
use Rattle.vpf_coverage.specs.Inner.Opening.Opened.{opened_coverage}
use Rattle.vpf_coverage.proofs.opening.CoverageLemmas.{none_tiled, own_folder, some_untiled}
use Rattle.vpf_coverage.proofs.opening.opening.open_coverage.Goals as goal

pub open_folder-requires : goal.open_folder-requires
open_folder-requires c = own_folder c.args.folder.now c.requires.0 c.args.files c.requires.1

pub open_tiled-requires : goal.open_tiled-requires
open_tiled-requires c =
    let v = c.in_ok-views in (
      c.requires.0,
      none_tiled c.args.folder.now c.requires.0 v.field-0 c.args.files c.open_folder.new.files c.in-None.is
          v.ensures.tables v.ensures.rest c.requires.1,
    )

pub returns-in-Some-clause-opened : goal.returns-in-Some-clause-opened
returns-in-Some-clause-opened c coverage h =
    let v = c.in_ok-views in
    let e = some_untiled c.args.folder.now coverage v.field-0 c.in-Some.views c.args.files c.in-Some.is v.ensures.tables h in
    subst (λ (tables : CoverageTables). IfOk c.untiled.result (λ (o : OpenCoverage). opened_coverage o ≡ tables)) e c.untiled.ensures.opened

pub returns-in-None-clause-opened : goal.returns-in-None-clause-opened
returns-in-None-clause-opened c coverage h =
    let v = c.in_ok-views in
    c.open_tiled.ensures.opened coverage
    (none_tiled c.args.folder.now coverage v.field-0 c.args.files c.open_folder.new.files c.in-None.is v.ensures.tables v.ensures.rest h)
