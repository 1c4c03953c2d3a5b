-- The limits of what is written, and what passes none.
use Rattle.std.proofs.Common.{◌≡◌, ℕ, ◌-◌, ◌≤◌, Bool, false, ltb, None}
use Rattle.std.proofs.lemmas.Bool.{ltb-false}
use Rattle.vpf_write.specs.Writing.{limit_by}
use Rattle.vpf_base.proofs.Options.{none_past}

-- no limit is passed
pub record Within (text rows size : ℕ) : Type 0 where
  pub text_fits : text ≤ 65536
  pub rows_fit : rows ≤ 16777215
  pub size_fits : size ≤ 67108864

pub within_bound : (text rows size : ℕ) (varies : Bool) → limit_by text rows size varies ≡ None → Within text rows size
unfolding limit_by
within_bound text rows size varies e =
    let a = none_past _ _ _ e in
    let b = none_past _ _ _ a.1 in
    let c = none_past _ _ _ b.1 in
    record { text_fits = ltb-false _ _ a.0; rows_fit = ltb-false _ _ b.0; size_fits = ltb-false _ _ c.0 }
