-- First places, when a key is put.
use Rattle.std.proofs.Common.{◌≡◌, ℕ, suc, ◌+◌, Bool, true, false, cond, Option, Some, None, List, [], ◌∷◌, ◌++◌, length, add-zero, refl, sym, ap, ◌∙◌, arith}
use Rattle.std.proofs.Math.Path.{fun_ext}
use Rattle.std.specs.Prelude.{is_some, position}
use Rattle.std.specs.Cmp.{IsEquivalence}
use Rattle.std.specs.HashMap.{HashMap, get}
use Rattle.std.specs.List.{position_from}
use Rattle.std.specs.Option.{option_or}
use Rattle.std.proofs.lemmas.Iterator.Adapters.{position_from-zero}
use Rattle.vpf_findings.specs.Inner.Places.{HoldFirsts}

from_push : {K : Type 0} (p : K → Bool) (i : ℕ) (xs : List K) (y : K) → position_from p i (xs ++ y ∷ []) ≡ option_or (position_from p i xs) (cond (p y) (Some (i + length xs)) None)
from_push p i [] y = rw add-zero refl
from_push p i (x ∷ xs) y =
    let e : i + suc (length xs) ≡ (i + 1) + length xs = omega arith in
    rw (e, from_push p (i + 1) xs y) (by (p x) (position_from p (i + 1) xs))
  where
    by : (b : Bool) (o : Option ℕ) → cond b (Some i) (option_or o (cond (p y) (Some ((i + 1) + length xs)) None)) ≡ option_or (cond b (Some i) o) (cond (p y) (Some ((i + 1) + length xs)) None)
    by true o = refl
    by false o = refl

place_push : {K : Type 0} (p : K → Bool) (xs : List K) (y : K) → position p (xs ++ y ∷ []) ≡ option_or (position p xs) (cond (p y) (Some (length xs)) None)
place_push p xs y =
    let zero : 0 + length xs ≡ length xs = omega arith in
    position_from-zero p (xs ++ y ∷ []) ∙ from_push p 0 xs y ∙ rw (zero, ← position_from-zero p xs) refl

or_none : {A : Type 0} (o : Option A) → option_or o None ≡ o
or_none None = refl
or_none (Some x) = refl

-- equal keys stand first in the same place
same_place : {K : Type 0} (eq : K → K → Bool) (keys : List K) (x y : K) → IsEquivalence eq → eq x y ≡ true → position (eq x) keys ≡ position (eq y) keys
same_place {K = K} eq keys x y same e = ap (λ (p : K → Bool). position p keys) (fun_ext (λ z. same.congr x y z e))

-- a key that is not there yet is put in the map
pub new_put : {K S : Type 0} (eq : K → K → Bool) (keys kept more : List K) (old new : HashMap K ℕ S) (key : K) (first : Option ℕ) (i : ℕ) → IsEquivalence eq → HoldFirsts eq keys old → first ≡ position (eq key) keys → is_some first ≡ false → i ≡ length keys → kept ≡ keys → more ≡ kept ++ key ∷ [] → ((q : K) → get eq new q ≡ cond (eq key q) (Some i) (get eq old q)) → HoldFirsts eq more new
new_put eq keys kept more old new key (Some place) i same held is none last same_keys pushed put q = absurd cc
new_put eq keys kept more old new key None i same held is none last same_keys pushed put q = put q ∙ rw (last, pushed, same_keys) (by (eq key q) refl ∙ sym (place_push (eq q) keys key))
  where
    by : (b : Bool) → eq key q ≡ b → cond b (Some (length keys)) (get eq old q) ≡ option_or (position (eq q) keys) (cond (eq q key) (Some (length keys)) None)
    by true e = rw (same.symm q key, e, ← same_place eq keys key q same e, ← is) refl
    by false e = rw (same.symm q key, e, or_none) (held q)

-- a key that is there leaves the map as it is
pub old_put : {K S : Type 0} (eq : K → K → Bool) (keys kept more : List K) (old : HashMap K ℕ S) (key : K) (first : Option ℕ) → IsEquivalence eq → HoldFirsts eq keys old → first ≡ position (eq key) keys → is_some first ≡ true → kept ≡ keys → more ≡ kept ++ key ∷ [] → HoldFirsts eq more old
old_put eq keys kept more old key None same held is some same_keys pushed q = absurd cc
old_put eq keys kept more old key (Some place) same held is some same_keys pushed q = held q ∙ rw (pushed, same_keys) (by (eq q key) refl ∙ sym (place_push (eq q) keys key))
  where
    by : (b : Bool) → eq q key ≡ b → position (eq q) keys ≡ option_or (position (eq q) keys) (cond (eq q key) (Some (length keys)) None)
    by true e = rw (same_place eq keys q key same e, ← is) refl
    by false e = rw (e, or_none) refl
