-- What is known of tables and thematic indexes by their own laws.
use Rattle.std.proofs.Common.{◌≡◌, ℕ, List, Ok}
use Rattle.vpf_base.specs.Bytes.{IsBytes}
use Rattle.vpf_base.specs.declared.orders.Order.{Order}
use Rattle.vpf_theme.specs.Entries.{Theme}
use Rattle.vpf_theme.specs.Reading.{theme_of}
use Rattle.vpf_theme.specs.Spelling.{IsThematicIndex}
use Rattle.vpf_library_files.specs.Inner.Loading.HeldLaws.{SpelledAreOpened}
use Rattle.vpf_library_files.specs.Inner.Loading.ReadLaws.{OpenedAreSpelled}

-- what is spelled is read
pub record SpelledAreRead : Type 0 where
  pub tables : SpelledAreOpened
  pub theme : (order : Order) (theme : Theme) (bytes : List ℕ) → IsThematicIndex order theme bytes → theme_of order bytes ≡ Ok theme

-- what is read is spelled
pub record ReadAreSpelled : Type 0 where
  pub tables : OpenedAreSpelled
  pub theme : (order : Order) (theme : Theme) (bytes : List ℕ) → IsBytes bytes → theme_of order bytes ≡ Ok theme → IsThematicIndex order theme bytes
