-- What rows that are numbered name is there.
use Rattle.std.proofs.Common.{◌≡◌, ℕ, sym, ap, subst, inl, inr, arith}
use Rattle.vpf_triplet.specs.declared.triplets.Triplet.{Triplet}
use Rattle.vpf_prims.specs.References.{id_of}
use Rattle.vpf_prims.specs.Primitives.{Library}
use Rattle.vpf_prims.specs.Numbering.{IsRowOf, IsReference}

pub reference_row : (L : Library) (count : ℕ → ℕ) (t : ℕ) (r : Triplet) → IsReference L count t r → IsRowOf (count t) (id_of r)
reference_row L count t r (inl p) = let e : id_of r ≡ p.id = ap id_of p.is in let a = p.from_low in let b = p.to_last in (omega arith, omega arith)
reference_row L count t r (inr c) = let e : id_of r ≡ c.id = ap id_of c.is in subst (IsRowOf (count t)) (sym e) c.here
