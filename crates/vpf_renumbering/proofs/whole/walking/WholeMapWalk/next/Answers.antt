use Rattle.std.proofs.Common.{◌≡◌, ◌∙◌, None, subst}
use Rattle.vpf_darts.specs.Darts.{tile_dart_code}
use Rattle.vpf_prims.specs.Coverages.{CoverageTables}
use Rattle.vpf_prims.specs.Libraries.{library_of}
use Rattle.vpf_wing.specs.Links.{links_of}
use Rattle.vpf_follow.specs.Following.{follow}
use Rattle.vpf_trace.specs.Tracing.{IsTraceable}
use Rattle.vpf_trace.specs.Inner.WalkLaws.{is_followed}
use Rattle.vpf_renumbering.proofs.whole.walking.WholeMapWalk.next.Goals as goal

pub unreachable-requires : goal.unreachable-requires
unreachable-requires c =
    is_followed (library_of c.args.self.now) (subst (λ (v : CoverageTables). IsTraceable (library_of v)) c.self.view_is c.self.invariant) (tile_dart_code c.args.dart) c.requires
    (subst (λ (v : CoverageTables). None ≡ follow (links_of (library_of v)) (tile_dart_code c.args.dart)) (c.coverage.ensures ∙ c.self.view_is) c.in-None.ensures)
