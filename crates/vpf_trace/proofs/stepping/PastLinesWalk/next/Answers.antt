use Rattle.std.proofs.Common.{◌≡◌, None, subst}
use Rattle.vpf_darts.specs.Darts.{tile_dart_code}
use Rattle.vpf_prims.specs.Coverages.{CoverageTables}
use Rattle.vpf_prims.specs.Libraries.{library_of}
use Rattle.vpf_wing.specs.Links.{links_of}
use Rattle.vpf_cross.specs.Following.{follow}
use Rattle.vpf_trace.specs.Inner.WalkLaws.{is_followed}
use Rattle.vpf_trace.proofs.stepping.PastLinesWalk.next.Goals as goal

pub unreachable-requires : goal.unreachable-requires
unreachable-requires c =
    is_followed (library_of c.args.self.now.checked.now) c.args.self.now.traceable (tile_dart_code c.args.dart) c.requires
    (subst (λ (v : CoverageTables). None ≡ follow (links_of (library_of v)) (tile_dart_code c.args.dart)) c.coverage.ensures c.in-None.ensures)
