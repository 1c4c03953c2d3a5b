-- What the rows of a tile name, by the numbers of its own edges, nodes and rings.
use Rattle.std.proofs.Common.{[], ◌≡◌, ℕ, zero, suc, ◌-◌, List, ◌∷◌, map, get_or, refl}
use Rattle.vpf_prims.specs.Primitives.{EdgePrimitive, own_edge, absent_edge}
use Rattle.vpf_wing.specs.Nexts.{no_edge}

pub own_edge_at : (es : List EdgePrimitive) (i : ℕ) → get_or (map own_edge es) i no_edge ≡ own_edge (get_or es i absent_edge)
own_edge_at [] i = refl
own_edge_at (e ∷ es) zero = refl
own_edge_at (e ∷ es) (suc i) = own_edge_at es i
