use Rattle.std.proofs.Common.{◌≡◌, None, subst, ap, sym}
use Rattle.std.specs.Prelude.{is_some}
use Rattle.vpf_darts.specs.Darts.{tile_dart_code}
use Rattle.vpf_prims.specs.Coverages.{CoverageTables}
use Rattle.vpf_prims.specs.Libraries.{library_of}
use Rattle.vpf_wing.specs.Links.{links_of}
use Rattle.vpf_cross.specs.Following.{follow}
use Rattle.vpf_wing.specs.Inner.DartLaws.{never_both}
use Rattle.vpf_trace.proofs.homes.next.Goals as goal

pub unreachable-requires : goal.unreachable-requires
unreachable-requires c =
    let L = library_of c.args.checked.now in
    let d = tile_dart_code c.args.dart in
    let none : None ≡ follow (links_of L) d = subst (λ (v : CoverageTables). None ≡ follow (links_of (library_of v)) d) c.coverage.ensures c.in-None.ensures in
    never_both (is_some (follow (links_of L) d)) (c.walks_pass_lines.ensures.follows d c.requires) (ap is_some (sym none))
