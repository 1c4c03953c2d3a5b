-- What a test says of its parts.
use Rattle.std.proofs.Common.{ℕ, ◌≡◌, Bool, true, false, cond, refl, inl, inr, ◌⊎◌}
use Rattle.std.specs.Prelude.{not, ◌&&◌, ◌||◌, ◌↔◌}

-- both of two tests hold
pub both : (a b : Bool) → (a && b) ≡ true → (a ≡ true) × (b ≡ true)
both true b e = (refl, e)
both false b e = absurd cc

-- three tests hold
pub all_three : (a b c : Bool) → (a && b && c) ≡ true → (a ≡ true) × (b ≡ true) × (c ≡ true)
all_three true true c e = (refl, refl, e)
all_three true false c e = absurd cc
all_three false b c e = absurd cc

-- neither of two tests holds
pub neither : (a b : Bool) → (a || b) ≡ false → (a ≡ false) × (b ≡ false)
neither false b e = (refl, e)
neither true b e = absurd cc

pub or_true : (b : Bool) → (b || true) ≡ true
or_true false = refl
or_true true = refl

pub or_false : (b : Bool) → (b || false) ≡ b
or_false false = refl
or_false true = refl

pub and_true : (b : Bool) → (b && true) ≡ b
and_true false = refl
and_true true = refl

pub and_false : (b : Bool) → (b && false) ≡ false
and_false false = refl
and_false true = refl

pub not_true : (b : Bool) → not b ≡ true → b ≡ false
not_true false e = refl
not_true true e = absurd cc

pub not_false : (b : Bool) → not b ≡ false → b ≡ true
not_false true e = refl
not_false false e = absurd cc

-- a test that can't hold fails
pub refuted : (b : Bool) → (b ≡ true → ⊥) → b ≡ false
refuted false h = refl
refuted true h = absurd (h refl)

-- no test both holds and fails
pub clash : (b : Bool) → b ≡ true → b ≡ false → ⊥
clash b e f = cc

-- two tests that hold alike are one
pub same_bool : (a b : Bool) → (a ≡ true → b ≡ true) → (b ≡ true → a ≡ true) → a ≡ b
same_bool true b up down = cc (up refl)
same_bool false true up down = down refl
same_bool false false up down = refl

-- a choice that came out one way or the other
pub tested : {A : Type 0} (b : Bool) (x y z : A) → cond b x y ≡ z → ((b ≡ true) × (x ≡ z)) ⊎ ((b ≡ false) × (y ≡ z))
tested true x y z e = inl (refl, e)
tested false x y z e = inr (refl, e)

-- whichever a test says
pub either : (b : Bool) {P : Type 0} → (b ≡ true → P) → (b ≡ false → P) → P
either true f g = f refl
either false f g = g refl

-- one fact exactly where another, and that exactly where a third
pub through : {P Q R : Type 0} → (P ↔ Q) → (Q ↔ R) → P ↔ R
through f g = (λ p. g.0 (f.0 p), λ r. f.1 (g.1 r))

-- one where a test passes, and none else
abbrev pub one_if : Bool → ℕ
one_if b = cond b 1 0
