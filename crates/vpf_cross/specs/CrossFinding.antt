-- What disagrees first in the topology of a coverage whose numbers are right: rule by rule, and in each tile by tile.
use Rattle.std.specs.Prelude.{Bool, true, false, Option}
use Rattle.vpf_findings.specs.Findings.{Disagreement}
use Rattle.vpf_findings.specs.Firsts.{◌or◌}
use Rattle.vpf_prims.specs.Coverages.{CoverageTables}
use Rattle.vpf_wing.specs.CycleLines.{loops_finding, cycles_finding}
use Rattle.vpf_prims.specs.Libraries.{library_of, in_tiles}
use Rattle.vpf_follow.specs.SideLines.{sides_finding}
use Rattle.vpf_follow.specs.FollowLines.{follows_finding}
use Rattle.vpf_cross.specs.HomeLines.{coverage_links, homes_finding}
use Rattle.vpf_cross.specs.RoundLines.{rounds_finding}
use Rattle.vpf_cross.specs.CarriedLines.{carried_finding, inhabited_finding}

-- across the tiles
abbrev pub across_finding : CoverageTables → Option Disagreement
across_finding c =
    in_tiles (follows_finding (coverage_links c)) c
    or in_tiles (homes_finding c) c
    or in_tiles (rounds_finding (coverage_links c)) c
    or in_tiles (carried_finding (library_of c)) c
    or in_tiles inhabited_finding c

-- an untiled coverage has loops and cycles alone
abbrev pub topology_finding_of : Bool → CoverageTables → Option Disagreement
topology_finding_of false c = in_tiles loops_finding c or in_tiles cycles_finding c
topology_finding_of true c = in_tiles sides_finding c or in_tiles cycles_finding c or across_finding c

-- by all rules on topology
abbrev pub topology_finding : CoverageTables → Option Disagreement
topology_finding c = topology_finding_of c.is_tiled c
