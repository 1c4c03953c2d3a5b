-- The canonical spelling is a spelling, and the shortest.
use Rattle.std.proofs.Common.{ℕ, List}
use Rattle.vpf_base.specs.declared.orders.Order.{Order}
use Rattle.vpf_triplet.specs.declared.triplets.Triplet.{Triplet}
use Rattle.vpf_triplet.specs.Canonical.{HasSmallParts}
use Rattle.vpf_triplet.specs.Spelling.{IsTriplet}
use Rattle.vpf_triplet.specs.Inner.SpelledLaws.{small_again}

pub spelled_small : (o : Order) (t : Triplet) (bytes : List ℕ) → IsTriplet o t bytes → HasSmallParts t
spelled_small o t bytes s = record { id = small_again s.id t.id s.holds_id; tile = small_again s.tile t.tile s.holds_tile; ext = small_again s.ext t.ext s.holds_ext }
