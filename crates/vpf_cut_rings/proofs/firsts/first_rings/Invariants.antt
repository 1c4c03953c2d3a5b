use Rattle.std.proofs.Common.{◌≡◌, ℕ, ◌<◌, eqb, length, map, get_or, take, suc}
use Rattle.vpf_prims.specs.Lists.{first_item}
use Rattle.vpf_tiling.specs.Tiles.{Ring}
use Rattle.vpf_cut_rings.specs.Inner.Rings.{ring_of}
use Rattle.vpf_cut_rings.proofs.firsts.first_rings.Given as goal

abbrev pub invariant-loop-k : goal.invariant-loop-k
invariant-loop-k l = record {
  len : length l.firsts.items ≡ l.faces;
  hold : (i : ℕ) → i < l.faces → get_or l.firsts.items i 0 ≡ first_item (λ (r : Ring). eqb r.face (suc i)) (map ring_of (take l.k l.rings));
}
