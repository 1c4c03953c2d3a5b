-- Bytes are a file of one thematic index, or have one first fault.
use Rattle.std.specs.Prelude.{◌≡◌, ◌⊎◌, ℕ, List}
use Rattle.vpf_base.specs.declared.orders.Order.{Order}
use Rattle.vpf_triplet.specs.declared.places.Place.{Place}
use Rattle.vpf_theme.specs.Entries.{Theme}
use Rattle.vpf_theme.specs.Inner.Faults.{FirstThemeFault}
use Rattle.vpf_theme.specs.Spelling.{IsThematicIndex}

-- exactly one of the two, in one way
pub record DecidesTheme (o : Order) (bytes : List ℕ) : Type 0 where
  pub either : ((t : Theme) × IsThematicIndex o t bytes) ⊎ ((place : Place) × FirstThemeFault o bytes place)
  pub never_both : (t : Theme) (place : Place) → IsThematicIndex o t bytes → FirstThemeFault o bytes place → ⊥
  pub one_index : (t u : Theme) → IsThematicIndex o t bytes → IsThematicIndex o u bytes → t ≡ u
  pub one_fault : (p q : Place) → FirstThemeFault o bytes p → FirstThemeFault o bytes q → p ≡ q
