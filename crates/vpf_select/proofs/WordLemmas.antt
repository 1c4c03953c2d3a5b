-- What a word says fits its column.
use Rattle.std.proofs.Common.{◌≡◌, ℕ, ℤ, zero, suc, pos, neg_ℤ, ◌-◌, ◌^◌, ◌<◌, ◌≤◌, Bool, true, false, ◌&&◌, ◌==◌, cond, List, [], ◌∷◌, ◌++◌, length, drop, replicate, Option, Some, None, refl, ap, subst, arith}
use mir.Val.{hbits}
use Rattle.std.specs.Prelude.{IsTrue, FitsSigned, nat_le, nat_lt, option_map, option_and_then}
use Rattle.std.specs.Int.{Width, w16, w32}
use Rattle.std.specs.List.{list_all}
use Rattle.std.specs.Str.Parse.{digits_value, starts_with_minus}
use Rattle.std.proofs.lemmas.Bool.{leb-true, ltb-true, eqb-true}
use Rattle.std.proofs.lemmas.List.{length-append, length-replicate}
use Rattle.vpf_head.specs.Bytes.{space}
use Rattle.vpf_base.proofs.Booleans.{both}
use Rattle.vpf_triplet.specs.declared.kinds.Kind.{Kind}
use Rattle.vpf_triplet.specs.declared.kinds.Kind.TheVariants as kinds
use Rattle.vpf_triplet.specs.declared.kinds.Count.{Count}
use Rattle.vpf_triplet.specs.declared.kinds.Count.TheVariants.{Fixed, Star}
use Rattle.vpf_triplet.specs.Kinds.{allows}
use Rattle.vpf_value.specs.Values.{Value, TextOf, Word4Of, Word8Of, NumberOf, DateOf, date_bytes}
use Rattle.vpf_value.specs.Inner.Fitting.{FitsText, FitsWord4, FitsWord8, FitsNumber, FitsDate, FitsKind, FitsCell}
use Rattle.vpf_select.specs.Words.{letter_w, filled, text_in, digits_in, negative, positive, number_in, is_hex, word_in, value_in}
use Rattle.vpf_select.proofs.DigitLemmas.{hex_below}

-- where something is made of an option, it was there
from_map : {A B : Type 0} (f : A → B) (o : Option A) (P : B → Type 0) (b : B) → option_map f o ≡ Some b → ((a : A) → o ≡ Some a → P (f a)) → P b
from_map f None P b h k = absurd (cc h)
from_map f (Some a) P b h k = let e : f a ≡ b = cc h in subst P e (k a refl)

from_next : {A B : Type 0} (f : A → Option B) (o : Option A) (P : B → Type 0) (b : B) → option_and_then f o ≡ Some b → ((a : A) → f a ≡ Some b → P b) → P b
from_next f None P b h k = absurd (cc h)
from_next f (Some a) P b h k = k a h

from_test : {A : Type 0} (t : Bool) (x a : A) → cond t (Some x) None ≡ Some a → (t ≡ true) × (x ≡ a)
from_test true x a h = (refl, cc h)
from_test false x a h = absurd (cc h)

filled_len : (width : ℕ) (word text : List ℕ) → filled width word ≡ Some text → length text ≡ width
filled_len width word text h =
    let t = from_test (nat_le (length word) width) (word ++ replicate (width - length word) space) text h in
    let le = leb-true (length word) width t.0 in
    let e = length-append word (replicate (width - length word) space) in
    let r = length-replicate (width - length word) space in
    let n = ap length t.1 in
    omega (arith, le, e, r, n)

text_fits : (count : Count) (word : List ℕ) (v : Value) → text_in count word ≡ Some v → FitsText count v
text_fits (Fixed n) word v h = from_map TextOf (filled n word) (FitsText (Fixed n)) v h (λ text e. filled_len n word text e)
text_fits Star word v h = let t = from_test (nat_lt (length word) (2 ^ 32)) (TextOf word) v h in subst (FitsText Star) t.1 (ltb-true (length word) (2 ^ 32) t.0)

date_fits : (word : List ℕ) (v : Value) → option_map DateOf (filled date_bytes word) ≡ Some v → FitsDate v
date_fits word v h = from_map DateOf (filled date_bytes word) FitsDate v h (λ text e. filled_len date_bytes word text e)

-- ---- numbers

below_zero : (w : Width) (half n : ℕ) → half ≡ 2 ^ hbits w → 0 < half → n ≤ half → FitsSigned w (neg_ℤ (pos n))
below_zero w half zero e some le = record { sfits = omega (arith, e, some) }
below_zero w half (suc n) e some le = record { sfits = omega (arith, e, le) }

number_fits : (w : Width) (half : ℕ) (word : List ℕ) (z : ℤ) → half ≡ 2 ^ hbits w → 0 < half → number_in half word ≡ Some z → FitsSigned w z
number_fits w half word z e some h = number_case (starts_with_minus word) h
  where
    minus_case : (n : ℕ) → negative half n ≡ Some z → FitsSigned w z
    minus_case n k = let t = from_test (nat_le n half) (neg_ℤ (pos n)) z k in subst (FitsSigned w) t.1 (below_zero w half n e some (leb-true n half t.0))

    plain_case : (n : ℕ) → positive half n ≡ Some z → FitsSigned w z
    plain_case n k = let t = from_test (nat_lt n half) (pos n) z k in let lt = ltb-true n half t.0 in subst (FitsSigned w) t.1 (record { sfits = omega (arith, e, lt) })

    number_case : (b : Bool) → cond b (option_and_then (negative half) (digits_in (drop 1 word))) (option_and_then (positive half) (digits_in word)) ≡ Some z → FitsSigned w z
    number_case true k = from_next (negative half) (digits_in (drop 1 word)) (FitsSigned w) z k minus_case
    number_case false k = from_next (positive half) (digits_in word) (FitsSigned w) z k plain_case

number_value_fits : (w : Width) (half : ℕ) (word : List ℕ) (v : Value) → half ≡ 2 ^ hbits w → 0 < half → option_map NumberOf (number_in half word) ≡ Some v → FitsNumber w v
number_value_fits w half word v e some h = from_map NumberOf (number_in half word) (FitsNumber w) v h (λ z k. number_fits w half word z e some k)

-- ---- words of floats

word_below : (len : ℕ) (word : List ℕ) (n : ℕ) → word_in len word ≡ Some n → n < 16 ^ len
word_below len [] n h = absurd (cc h)
word_below len (b ∷ ds) n h =
    let t = from_test (b == letter_w && length ds == len && list_all is_hex ds) (digits_value 16 ds) n h in
    let a = both (b == letter_w && length ds == len) (list_all is_hex ds) t.0 in
    let k = both (b == letter_w) (length ds == len) a.0 in
    let e = eqb-true (length ds) len k.1 in
    let below = hex_below ds a.1 in
    subst (λ (x : ℕ). x < 16 ^ len) t.1 (subst (λ (x : ℕ). digits_value 16 ds < 16 ^ x) e below)

-- ---- the law

kind_fits : (kind : Kind) (count : Count) (word : List ℕ) (v : Value) → value_in kind count word ≡ Some v → FitsKind kind count v
unfolding value_in
kind_fits kinds.T count word v h = text_fits count word v h
kind_fits kinds.L count word v h = text_fits count word v h
kind_fits kinds.M count word v h = text_fits count word v h
kind_fits kinds.N count word v h = text_fits count word v h
kind_fits kinds.F count word v h = from_map Word4Of (word_in 8 word) FitsWord4 v h (λ n e. word_below 8 word n e)
kind_fits kinds.R count word v h = from_map Word8Of (word_in 16 word) FitsWord8 v h (λ n e. word_below 16 word n e)
kind_fits kinds.S count word v h = number_value_fits w16 (2 ^ 15) word v refl (omega arith) h
kind_fits kinds.I count word v h = number_value_fits w32 (2 ^ 31) word v refl (omega arith) h
kind_fits kinds.D count word v h = date_fits word v h
kind_fits kinds.X count word v h = absurd (cc h)
kind_fits kinds.K count word v h = absurd (cc h)
kind_fits kinds.C count word v h = absurd (cc h)
kind_fits kinds.B count word v h = absurd (cc h)
kind_fits kinds.Z count word v h = absurd (cc h)
kind_fits kinds.Y count word v h = absurd (cc h)

pub word_fits : (kind : Kind) (count : Count) (word : List ℕ) (v : Value) → IsTrue (allows kind count) → value_in kind count word ≡ Some v → FitsCell kind count v
word_fits kind count word v a h = (a, kind_fits kind count word v h)
