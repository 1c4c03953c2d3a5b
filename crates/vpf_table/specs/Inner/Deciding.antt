-- Bytes are one table, or have one first fault.
use Rattle.std.specs.Prelude.{◌≡◌, ℕ, ◌⊎◌, List, Option}
use Rattle.vpf_triplet.specs.declared.places.Place.{Place}
use Rattle.vpf_table.specs.Faults.{FirstFault}
use Rattle.vpf_table.specs.Grid.{Grid}
use Rattle.vpf_table.specs.Spans.{IsOpened}

-- exactly one of the two, in one way
pub record Decides (bytes : List ℕ) (index : Option (List ℕ)) : Type 0 where
  pub either : ((g : Grid) × IsOpened g bytes index) ⊎ ((place : Place) × FirstFault bytes index place)
  pub never_both : (g : Grid) (place : Place) → IsOpened g bytes index → FirstFault bytes index place → ⊥
  pub one_table : (g h : Grid) → IsOpened g bytes index → IsOpened h bytes index → g ≡ h
  pub one_fault : (p q : Place) → FirstFault bytes index p → FirstFault bytes index q → p ≡ q
