use Rattle.std.proofs.Common.{◌≡◌, ℕ, ◌<◌, not, length}
use Rattle.vpf_darts.specs.Inner.Ranks.{marked}
use Rattle.vpf_darts.proofs.cycling.marks_of_dead.Given as goal

abbrev pub invariant-loop-rank : goal.invariant-loop-rank
invariant-loop-rank g l = record {
  pushed : length l.marks.items ≡ l.rank;
  dead : (d : ℕ) → d < l.rank → marked l.marks.items d ≡ not (g.R.Ranked.live l.darts d);
}
