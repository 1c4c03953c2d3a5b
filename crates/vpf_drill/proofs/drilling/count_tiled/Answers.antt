use Rattle.std.proofs.Common.{◌≡◌, ◌∙◌, List, None, sym, subst, ap}
use Rattle.vpf_source.specs.declared.file.File.{File}
use Rattle.vpf_darts.specs.Listings.{numbers_of}
use Rattle.vpf_prims.specs.Coverages.{CoverageTables}
use Rattle.vpf_prims.specs.Libraries.{library_of}
use Rattle.vpf_library_files.specs.Loading.Holding.{AreCoverageFiles}
use Rattle.vpf_library_commands.specs.TraceTracing.{IsTrace}
use Rattle.vpf_cross.specs.CrossFinding.{topology_finding}
use Rattle.vpf_drill.specs.GridCutting.Reading.{grid_request}
use Rattle.vpf_drill.specs.Numbers.{tiled_numbers}
use Rattle.vpf_drill.specs.Inner.Traced.{IsOfTiled}
use Rattle.vpf_drill.proofs.DrillLemmas.{if_given, none_first, none_second}
use Rattle.vpf_drill.proofs.drilling.count_tiled.Goals as goal

pub load_here-requires : goal.load_here-requires
load_here-requires c =
    let t = c.grid_is_tiled.ensures.tiled c.args.cells c.requires.can in
    record { held = t.after; tells = c.requires.files ∙ t.made; coverage = t.tiled; read = t.tiled_read }

pub open_here-requires : goal.open_here-requires
open_here-requires c =
    let t = c.grid_is_tiled.ensures.tiled c.args.cells c.requires.can in
    let are = c.in_ok-files.ensures.held t.after t.tiled (c.requires.files ∙ t.made) t.tiled_read in (
      t.tiled.coverage,
      subst (λ (files : List File). AreCoverageFiles grid_request.out grid_request.cov t.tiled.coverage files) (sym c.deref.ensures.value) are,
      none_first _ _ t.tiled_agrees,
    )

pub cycles_of-requires : goal.cycles_of-requires
cycles_of-requires c =
    let t = c.grid_is_tiled.ensures.tiled c.args.cells c.requires.can in
    let are = c.in_ok-files.ensures.held t.after t.tiled (c.requires.files ∙ t.made) t.tiled_read in
    let same =
    c.in_ok-coverage.ensures t.tiled.coverage (subst (λ (files : List File). AreCoverageFiles grid_request.out grid_request.cov t.tiled.coverage files) (sym c.deref.ensures.value) are) in
    subst (λ (k : CoverageTables). topology_finding k ≡ None) (sym same) (none_second _ _ t.tiled_agrees)

pub returns : goal.returns
returns c after tiled told read =
    let are = c.in_ok-files.ensures.held after tiled (c.requires.files ∙ told) read in
    let same =
    c.in_ok-coverage.ensures tiled.coverage (subst (λ (files : List File). AreCoverageFiles grid_request.out grid_request.cov tiled.coverage files) (sym c.deref.ensures.value) are) in
    if_given _ (IsOfTiled tiled.coverage c.args.made.now) c.numbers_of.result c.numbers_of.ensures (λ numbers is. record {
      cycles = c.in_ok-listing.listing;
      are = subst (λ (k : CoverageTables). IsTrace (library_of k) (numbers_of c.in_ok-listing.listing)) same c.in_ok-listing.ensures;
      is = is ∙ ap (λ (k : CoverageTables). tiled_numbers k c.in_ok-listing.listing c.args.made.now) same;
    })
