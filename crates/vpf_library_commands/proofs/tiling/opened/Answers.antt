use Rattle.std.proofs.Common.{◌∙◌, ap}
use Rattle.vpf_prims.specs.Coverages.{CoverageTables}
use Rattle.vpf_featured.specs.Inner.Held.{AreFeaturedFiles}
use Rattle.vpf_library_commands.proofs.tiling.opened.Goals as goal

pub returns-clause-first : goal.returns-clause-first
returns-clause-first c read are =
    let there : AreFeaturedFiles c.as_str.result.now c.as_str-2.result.now c.args.files.now read = rw (c.as_str.ensures, c.as_str-2.ensures) are.featured in
    rw (c.as_str.ensures, c.as_str-2.ensures) at (c.in_ok-featured.ensures.first read there)

pub returns-clause-coverage : goal.returns-clause-coverage
returns-clause-coverage c read are =
    let there : AreFeaturedFiles c.as_str.result.now c.as_str-2.result.now c.args.files.now read = rw (c.as_str.ensures, c.as_str-2.ensures) are.featured in
    c.in_ok-coverage.ensures ∙ c.in_ok-featured.ensures.coverage read there

pub returns-clause-schema : goal.returns-clause-schema
returns-clause-schema c read are =
    let there : AreFeaturedFiles c.as_str.result.now c.as_str-2.result.now c.args.files.now read = rw (c.as_str.ensures, c.as_str-2.ensures) are.featured in
    c.in_ok-featured.ensures.schema read there

pub returns-clause-untiled : goal.returns-clause-untiled
returns-clause-untiled c =
    let read = c.requires.0 in
    let there : AreFeaturedFiles c.as_str.result.now c.as_str-2.result.now c.args.files.now read = rw (c.as_str.ensures, c.as_str-2.ensures) c.requires.1.featured in
    let same = c.in_ok-coverage.ensures ∙ c.in_ok-featured.ensures.coverage read there in
    ap (λ (x : CoverageTables). x.is_tiled) same ∙ ap (λ (x : CoverageTables). x.is_tiled) c.requires.1.untiled.is
