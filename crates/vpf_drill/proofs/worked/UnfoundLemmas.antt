-- Nothing is found.
use Rattle.std.proofs.Common.{refl}
use Rattle.vpf_darts.specs.Darts.{code}
use Rattle.vpf_prims.specs.Libraries.{in_tiles}
use Rattle.vpf_numbers.specs.TableLines.{numbers_finding}
use Rattle.vpf_theme.specs.Findings.{first_finding}
use Rattle.vpf_wing.specs.Nexts.{tail, face, wing, next_dart}
use Rattle.vpf_wing.specs.Places.{next_place, least_place}
use Rattle.vpf_wing.specs.CycleLines.{cycles_finding, ring_cycle, ring_dart}
use Rattle.vpf_drill.specs.Inner.Worked.Request.{WorkedIsUnfound}

pub unfound : WorkedIsUnfound
unfolding code numbers_finding in_tiles tail face wing next_dart next_place least_place cycles_finding ring_cycle ring_dart first_finding
unfound = refl
