-- There is no finding on carried cells exactly where shared nodes and the universe carry the same everywhere.
use Rattle.std.proofs.Common.{◌≡◌, ℕ, zero, suc, Bool, true, subst, inl, inr, Some}
use Rattle.std.proofs.lemmas.Bool.{cases_Bool}
use Rattle.vpf_wing.specs.Inner.DartLaws.{none_is_some, same_some}
use Rattle.vpf_cross.specs.CarriedLines.{first_passing}

-- the first number that passes does
pub passing_is : (p : ℕ → Bool) (k n s : ℕ) → first_passing p k n ≡ Some s → p s ≡ true
passing_is p k zero s h = absurd (none_is_some s h)
passing_is p k (suc n) s h = elim (cases_Bool (p k)) [
  | inl t ↦ (let h' = rw t at h in let e : k ≡ s = same_some k s h' in subst (λ z. p z ≡ true) e t)
  | inr f ↦ (let h' = rw f at h in passing_is p (suc k) n s h')
]
