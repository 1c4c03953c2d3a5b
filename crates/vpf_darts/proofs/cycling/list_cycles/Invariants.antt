use Rattle.std.proofs.Common.{◌≡◌, length, map}
use Rattle.vpf_darts.specs.Darts.{tile_dart_code}
use Rattle.vpf_darts.specs.Inner.Ranks.{marked}
use Rattle.vpf_darts.proofs.RankLemmas.{IsListedTo}
use Rattle.vpf_darts.proofs.cycling.list_cycles.Given as goal

abbrev pub invariant-loop-start : goal.invariant-loop-start
invariant-loop-start g l = record {
  one_each : length l.marks.items ≡ g.R.Ranked.count l.darts;
  listed : IsListedTo (g.R.Ranked.code l.darts) (g.R.Ranked.next l.darts) (g.R.Ranked.live l.darts) (marked l.marks.items) (map tile_dart_code l.listed.items) l.ends.items l.start;
}
