use Rattle.std.proofs.Common.{sym, subst}
use Rattle.vpf_source.specs.declared.file.File.{File}
use Rattle.vpf_library_files.specs.Loading.Holding.{AreCoverageFiles}
use Rattle.std.proofs.Common.{List}
use Rattle.vpf_drill.specs.GridCutting.Held.{grid_held}
use Rattle.vpf_drill.specs.GridCutting.Reading.{grid_request}
use Rattle.vpf_drill.proofs.DrillLemmas.{none_first, source_is}
use Rattle.vpf_drill.proofs.drilling.count_source.Goals as goal

pub load_here-requires : goal.load_here-requires
load_here-requires c =
    let t = c.grid_is_tiled.ensures.tiled c.args.cells c.requires.can in
    record { held = grid_held c.args.cells; tells = c.requires.files; coverage = t.source; read = t.source_read }

pub open_here-requires : goal.open_here-requires
open_here-requires c =
    let t = c.grid_is_tiled.ensures.tiled c.args.cells c.requires.can in
    let are = c.in_ok-files.ensures.held (grid_held c.args.cells) t.source c.requires.files t.source_read in (
      t.source.coverage,
      subst (λ (files : List File). AreCoverageFiles grid_request.lib grid_request.cov t.source.coverage files) (sym c.deref.ensures.value) are,
      none_first _ _ t.source_agrees,
    )

pub returns-clause-numbers : goal.returns-clause-numbers
returns-clause-numbers c source read =
    let are = c.in_ok-files.ensures.held (grid_held c.args.cells) source c.requires.files read in
    let same =
    c.in_ok-coverage.ensures source.coverage (subst (λ (files : List File). AreCoverageFiles grid_request.lib grid_request.cov source.coverage files) (sym c.deref.ensures.value) are) in
    source_is _ source.coverage _ _ same c.totals_of.ensures.edges c.line_count.ensures
