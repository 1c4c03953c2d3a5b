-- Bytes begin with one header, or have one first fault.
use Rattle.std.specs.Prelude.{◌≡◌, ◌⊎◌, ℕ, List, ◌++◌}
use Rattle.vpf_triplet.specs.declared.places.Place.{Place}
use Rattle.vpf_head.specs.Faults.{FirstHeaderFault}
use Rattle.vpf_head.specs.Head.{Head}
use Rattle.vpf_head.specs.Spelling.{IsHeader}

-- the bytes begin with a spelling of the header, and `rest` follows it
pub record BeginsHeader (bytes : List ℕ) (h : Head) (text rest : List ℕ) : Type 0 where
  pub parts : bytes ≡ text ++ rest
  pub spelled : IsHeader h text

-- exactly one of the two, in one way
pub record DecidesHeader (bytes : List ℕ) : Type 0 where
  pub either : ((h : Head) × (text : List ℕ) × (rest : List ℕ) × BeginsHeader bytes h text rest) ⊎ ((place : Place) × FirstHeaderFault bytes place)
  pub never_both : (h : Head) (text rest : List ℕ) (place : Place) → BeginsHeader bytes h text rest → FirstHeaderFault bytes place → ⊥
  pub one_place : (p q : Place) → FirstHeaderFault bytes p → FirstHeaderFault bytes q → p ≡ q
  pub one_header : (h k : Head) (text rest text2 rest2 : List ℕ) → BeginsHeader bytes h text rest → BeginsHeader bytes k text2 rest2 → (h ≡ k) × (text ≡ text2) × (rest ≡ rest2)
