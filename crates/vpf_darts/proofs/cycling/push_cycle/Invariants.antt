use Rattle.std.proofs.Common.{map, not}
use Rattle.std.specs.List.{count_by}
use Rattle.vpf_darts.specs.Darts.{tile_dart_code}
use Rattle.vpf_darts.specs.Inner.Ranks.{marked}
use Rattle.vpf_darts.proofs.RankLemmas.{IsGoingRound}
use Rattle.vpf_darts.proofs.cycling.push_cycle.Given as goal

abbrev pub invariant-loop-marks : goal.invariant-loop-marks
invariant-loop-marks g l = IsGoingRound (g.R.Ranked.count l.darts) (g.R.Ranked.code l.darts) (g.R.Ranked.next l.darts) l.start l.rank (marked l.fn.marks) (marked l.marks) (map tile_dart_code l.fn.listed.items) (map tile_dart_code l.listed.items)

abbrev pub decreases-loop-marks : goal.decreases-loop-marks
decreases-loop-marks g l = count_by not l.marks
