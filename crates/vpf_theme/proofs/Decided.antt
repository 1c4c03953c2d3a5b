-- Bytes are a file of one thematic index, or have one first fault.
use Rattle.std.proofs.Common.{◌⊎◌, ◌≡◌, ℕ, List, Result, Ok, Err, refl, inl, inr}
use Rattle.vpf_base.specs.Bytes.{IsBytes}
use Rattle.vpf_base.specs.declared.orders.Order.{Order}
use Rattle.vpf_triplet.specs.declared.places.Place.{Place}
use Rattle.vpf_theme.specs.Inner.Deciding.{DecidesTheme}
use Rattle.vpf_theme.specs.Entries.{Theme}
use Rattle.vpf_theme.specs.Inner.Faults.{FirstThemeFault}
use Rattle.vpf_theme.specs.Reading.{theme_of}
use Rattle.vpf_theme.specs.Spelling.{IsThematicIndex}
use Rattle.vpf_theme.proofs.EntryFaults.{theme_faults, theme_refused}
use Rattle.vpf_theme.proofs.SpellingLemmas.{CellsAreRead, CellsAreSpelled, theme_again, theme_read}
use Rattle.vpf_theme.proofs.ValueLemmas.{FixedCells}

theme_or_fault : CellsAreSpelled → FixedCells → (o : Order) (bytes : List ℕ) (r : Result Theme Place) → IsBytes bytes → theme_of o bytes ≡ r → ((t : Theme) × IsThematicIndex o t bytes) ⊎ ((place : Place) × FirstThemeFault o bytes place)
theme_or_fault spelled fixed o bytes (Ok t) fits e = inl (t, theme_read spelled fixed o t bytes fits e)
theme_or_fault spelled fixed o bytes (Err place) fits e = inr (place, theme_faults spelled fixed o bytes place fits e)

ok_err : (r : Result Theme Place) (t : Theme) (p : Place) → r ≡ Ok t → r ≡ Err p → ⊥
ok_err r t p e f = cc

ok_ok : (r : Result Theme Place) (t u : Theme) → r ≡ Ok t → r ≡ Ok u → t ≡ u
ok_ok r t u e f = cc

err_err : (r : Result Theme Place) (p q : Place) → r ≡ Err p → r ≡ Err q → p ≡ q
err_err r p q e f = cc

pub theme_decided : CellsAreRead → CellsAreSpelled → FixedCells → (o : Order) (bytes : List ℕ) → IsBytes bytes → DecidesTheme o bytes
theme_decided read spelled fixed o bytes fits = record {
  either = theme_or_fault spelled fixed o bytes (theme_of o bytes) fits refl;
  never_both = λ t place is fault. ok_err (theme_of o bytes) t place (theme_again read fixed o t bytes is) (theme_refused read fixed o bytes place fault);
  one_index = λ t u is other. ok_ok (theme_of o bytes) t u (theme_again read fixed o t bytes is) (theme_again read fixed o u bytes other);
  one_fault = λ p q e f. err_err (theme_of o bytes) p q (theme_refused read fixed o bytes p e) (theme_refused read fixed o bytes q f);
}
