-- Bytes are one variable-length index, or have one first fault.
use Rattle.std.specs.Prelude.{◌≡◌, ℕ, ◌⊎◌, List}
use Rattle.vpf_base.specs.declared.orders.Order.{Order}
use Rattle.vpf_triplet.specs.declared.places.Place.{Place}
use Rattle.vpf_varindex.specs.Faults.{FirstIndexFault}
use Rattle.vpf_varindex.specs.RowIndex.{IsRowIndex}

-- exactly one of the two, in one way
pub record DecidesIndex (o : Order) (bytes : List ℕ) : Type 0 where
  pub either : ((spans : List (ℕ × ℕ)) × IsRowIndex o spans bytes) ⊎ ((place : Place) × FirstIndexFault o bytes place)
  pub never_both : (spans : List (ℕ × ℕ)) (place : Place) → IsRowIndex o spans bytes → FirstIndexFault o bytes place → ⊥
  pub one_list : (ss ts : List (ℕ × ℕ)) → IsRowIndex o ss bytes → IsRowIndex o ts bytes → ss ≡ ts
  pub one_fault : (p q : Place) → FirstIndexFault o bytes p → FirstIndexFault o bytes q → p ≡ q
