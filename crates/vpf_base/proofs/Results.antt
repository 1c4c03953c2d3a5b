-- What a result says of the steps that it came from.
use Rattle.std.proofs.Common.{◌≡◌, Bool, true, false, cond, Result, Ok, Err, refl, rules}
use Rattle.vpf_base.specs.Results.{◌>>=◌}
use Rattle.std.specs.Prelude.{IfOk}

-- a value, as the result of a step that may fail
abbrev pub done : {A E : Type 0} → A → Result A E
done x = Ok x

-- an error, as the result of a step
abbrev pub failed : {A E : Type 0} → E → Result A E
failed p = Err p

pub ok_is : {A E : Type 0} {x y : A} → done {E = E} x ≡ done y → x ≡ y
ok_is e = cc

pub err_is : {A E : Type 0} {p q : E} → failed {A = A} p ≡ failed q → p ≡ q
err_is e = cc

pub no_ok : {A E : Type 0} (x : A) (p : E) → Ok x ≡ failed p → ⊥
no_ok x p e = cc

-- one result is no value and an error
pub ok_not_err : {A E : Type 0} (r : Result A E) (x : A) (p : E) → r ≡ Ok x → r ≡ Err p → ⊥
ok_not_err r x p e f = cc

-- one result has one error
pub one_err : {A E : Type 0} (r : Result A E) (p q : E) → r ≡ Err p → r ≡ Err q → p ≡ q
one_err r p q e f = cc

-- a test that has to pass
pub passed : {A E : Type 0} (b : Bool) (p : E) (r : Result A E) (y : A) → cond b r (Err p) ≡ Ok y → (b ≡ true) × (r ≡ Ok y)
passed true p r y e = (refl, e)
passed false p r y e = absurd cc

-- a test that has to fail
pub guarded : {A E : Type 0} (b : Bool) (p : E) (r : Result A E) (y : A) → cond b (Err p) r ≡ Ok y → (b ≡ false) × (r ≡ Ok y)
guarded false p r y e = (refl, e)
guarded true p r y e = absurd cc

-- two steps that went well
pub bind_ok : {A B E : Type 0} (r : Result A E) (f : A → Result B E) (y : B) → (r >>= f) ≡ Ok y → (x : A) × (r ≡ Ok x) × (f x ≡ Ok y)
bind_ok (Ok x) f y e = (x, refl, e)
bind_ok (Err p) f y e = absurd cc

-- what is so of a value is so of it in other words
pub if_ok_more : {V E : Type 0} (P Q : V → Type 0) (r : Result V E) → ((v : V) → P v → Q v) → IfOk r P → IfOk r Q
if_ok_more P Q (Ok v) more h = more v h
if_ok_more P Q (Err x) more h = search rules
