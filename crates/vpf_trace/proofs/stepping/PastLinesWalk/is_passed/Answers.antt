use Rattle.std.proofs.Common.{sym, ◌∙◌, ap}
use Rattle.vpf_darts.specs.Darts.{tile_dart_code}
use Rattle.vpf_prims.specs.Coverages.{CoverageTables}
use Rattle.vpf_prims.specs.Libraries.{library_of}
use Rattle.vpf_trace.specs.Tracing.{is_on_line}
use Rattle.vpf_trace.proofs.stepping.PastLinesWalk.is_passed.Goals as goal

pub returns : goal.returns
returns c =
    c.is_on_line.ensures ∙ ap (λ (v : CoverageTables). is_on_line (library_of v) (tile_dart_code c.args.dart)) c.coverage.ensures
    ∙ sym (c.args.self.now.lines.marked (tile_dart_code c.args.dart) c.requires)
