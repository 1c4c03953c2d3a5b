-- A header is made of the parts that its file spells, and of no others.
use Rattle.std.proofs.Common.{◌≡◌, true, refl}
use Rattle.std.proofs.lemmas.Bool.{eq-eqb}
use Rattle.vpf_triplet.specs.declared.kinds.Count.{Count}
use Rattle.vpf_triplet.specs.declared.kinds.Count.TheVariants.{Fixed, Star}
use Rattle.vpf_head.specs.Making.{same_count}

pub own_count : (c : Count) → same_count c c ≡ true
own_count (Fixed n) = eq-eqb n n refl
own_count Star = refl
