-- Bytes are one table, or have one first fault.
use Rattle.std.proofs.Common.{Result, ◌≡◌, ℕ, List, Option, Ok, Err, refl, sym, ◌∙◌, inl, inr, ◌⊎◌}
use Rattle.std.specs.Prelude.{IfSome}
use Rattle.vpf_base.proofs.Results.{ok_is}
use Rattle.vpf_base.specs.Bytes.{IsBytes}
use Rattle.vpf_triplet.specs.declared.places.Place.{Place}
use Rattle.vpf_table.specs.Inner.Deciding.{Decides}
use Rattle.vpf_table.specs.Faults.{FirstFault}
use Rattle.vpf_table.specs.Grid.{Grid}
use Rattle.vpf_table.specs.Inner.Lower.{CellAndHeaderLaws, IndexLaws}
use Rattle.vpf_table.specs.Opening.{opened_of}
use Rattle.vpf_table.specs.Spans.{IsOpened}
use Rattle.vpf_table.proofs.FaultLaws.{opening_faults}
use Rattle.vpf_table.proofs.RefusalLaws.{opening_refused}
use Rattle.vpf_table.proofs.SpanLaws.{opened_again, opened_takes}

either_of : CellAndHeaderLaws → IndexLaws → (bytes : List ℕ) (index : Option (List ℕ)) (r : Result Grid Place) → IsBytes bytes → IfSome index IsBytes → opened_of bytes index ≡ r
    → ((g : Grid) × IsOpened g bytes index) ⊎ ((place : Place) × FirstFault bytes index place)
either_of laws ix bytes index (Ok g) fits fits2 e = inl (g, opened_takes laws ix bytes index g fits fits2 e)
either_of laws ix bytes index (Err p) fits fits2 e = inr (p, opening_faults laws ix bytes index p fits fits2 e)

ok_err : (r : Result Grid Place) (x : Grid) (p : Place) → r ≡ Ok x → r ≡ Err p → ⊥
ok_err r x p e f = cc

err_err : (r : Result Grid Place) (p q : Place) → r ≡ Err p → r ≡ Err q → p ≡ q
err_err r p q e f = cc

pub opening_decided : CellAndHeaderLaws → IndexLaws → (bytes : List ℕ) (index : Option (List ℕ)) → IsBytes bytes → IfSome index IsBytes → Decides bytes index
opening_decided laws ix bytes index fits fits2 = record {
  either = either_of laws ix bytes index (opened_of bytes index) fits fits2 refl;
  never_both = λ g p t f. ok_err _ g p (opened_again laws ix bytes index g t) (opening_refused laws ix bytes index p f);
  one_table = λ g h t u. ok_is {x = g} {y = h} (sym (opened_again laws ix bytes index g t) ∙ opened_again laws ix bytes index h u);
  one_fault = λ p q e f. err_err _ p q (opening_refused laws ix bytes index p e) (opening_refused laws ix bytes index q f);
}
