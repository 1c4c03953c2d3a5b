-- What is said of some and none.
use Rattle.std.proofs.Common.{◌≡◌, Some, None, ℕ, Bool, true, false, cond, Option, refl}

-- what is in two that are one
pub some_is : {X : Type 0} (a b : X) → Some a ≡ Some b → a ≡ b
some_is a b e = cc

pub none_some : {X : Type 0} (x : X) → None ≡ Some x → ⊥
none_some x e = cc

-- the one or none of a test is some
pub count_case : (b : Bool) (n m : ℕ) → cond b (Some n) None ≡ Some m → (b ≡ true) × (n ≡ m)
count_case true n m e = (refl, cc e)
count_case false n m e = absurd (cc e)

-- the first of two that may be none is none, and so is what follows
pub none_past : {X : Type 0} (b : Bool) (x : X) (r : Option X) → cond b (Some x) r ≡ None → (b ≡ false) × (r ≡ None)
none_past true x r e = absurd (cc e)
none_past false x r e = (refl, e)
