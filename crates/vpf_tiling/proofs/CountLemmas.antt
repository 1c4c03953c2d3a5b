-- The local numbers count what is present.
use Rattle.std.proofs.Common.{◌≡◌, ℕ, suc, ◌+◌, Bool, true, false, refl, sym, ap, ◌∙◌, arith}
use Rattle.std.specs.Prelude.{count_by}
use Rattle.std.specs.List.{range_with_len}
use Rattle.std.proofs.lemmas.List.Sums.{length-filter}
use Rattle.vpf_tiling.specs.Ranks.{rank}
use Rattle.vpf_tiling.specs.Presence.{has_edge, has_node, holds_face}
use Rattle.vpf_tiling.specs.Inner.Laws.{EdgesAreCounted, NodesAreCounted, FacesAreCounted}
use Rattle.vpf_tiling.specs.Inner.PresenceLaws.{no_edge_zero, no_node_zero}
use Rattle.vpf_tiling.specs.Inner.RankLaws.{count_is, rank-step, weight}

-- a number that passes is one more than those that pass below it
counted : (p : ℕ → Bool) → p 0 ≡ false → (k : ℕ) → p k ≡ true → rank p k + 1 ≡ count_by p (range_with_len 1 k)
counted p zero_fails k passes =
    let all : count_by p (range_with_len 1 k) ≡ rank p (suc k) = sym (length-filter p (range_with_len 1 k)) ∙ count_is p zero_fails k in
    let step : rank p (suc k) ≡ 1 + rank p k = rank-step p k 1 (ap weight passes) in
    omega arith

pub edges_are_counted : EdgesAreCounted
edges_are_counted c plan t e h = counted (has_edge c plan t) (no_edge_zero c plan t) e h

pub nodes_are_counted : NodesAreCounted
nodes_are_counted c plan w t n h = counted (has_node c plan t) (no_node_zero c plan w t) n h

pub faces_are_counted : FacesAreCounted
faces_are_counted c plan t f h =
    let e : rank (holds_face c plan t) f + 1 ≡ count_by (holds_face c plan t) (range_with_len 1 f) = counted (holds_face c plan t) refl f h in
    omega arith
