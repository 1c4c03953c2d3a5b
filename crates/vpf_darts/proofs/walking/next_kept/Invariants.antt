use Rattle.vpf_darts.specs.Darts.{tile_dart_code}
use Rattle.vpf_darts.proofs.StepLemmas.{IsWalking, steps_left}
use Rattle.vpf_darts.proofs.walking.next_kept.Given as goal

abbrev pub invariant-loop-at : goal.invariant-loop-at
invariant-loop-at g l = IsWalking (g.W.Walk.map l.walk) (g.W.Walk.passed l.walk) (tile_dart_code l.fn.dart) (tile_dart_code l.at)

abbrev pub decreases-loop-at : goal.decreases-loop-at
decreases-loop-at g l = steps_left (g.W.Walk.map l.walk) (g.W.Walk.passed l.walk) (tile_dart_code l.at)
