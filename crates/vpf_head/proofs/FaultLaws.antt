-- An error of reading is the first fault.
use Rattle.std.proofs.Common.{◌≡◌, ℕ, ◌+◌, Bool, true, false, cond, ltb, nat_eq, List, ◌++◌, length, take, drop, get_or, Option, Some, None, Result, Ok, Err, refl, sym, ap, ◌∙◌, arith, inl, inr, ◌⊎◌}
use Rattle.std.specs.Prelude.{position, ◌||◌}
use Rattle.std.proofs.lemmas.List.Quantifiers.{position-Some}
use Rattle.std.proofs.lemmas.Bool.{ltb-true, ltb-false}
use Rattle.std.proofs.lemmas.List.{take-append-drop, drop_more}
use Rattle.vpf_base.specs.Limits.{longest_name}
use Rattle.vpf_base.specs.Results.{◌>>=◌}
use Rattle.vpf_base.proofs.Results.{failed, err_is}
use Rattle.vpf_triplet.specs.declared.places.Place.{Place}
use Rattle.vpf_triplet.specs.declared.places.Code.{Code}
use Rattle.vpf_triplet.specs.declared.places.Code.TheVariants as codes
use Rattle.vpf_triplet.specs.Places.{fault}
use Rattle.vpf_head.specs.declared.items.Form.{Form}
use Rattle.vpf_head.specs.declared.items.Form.TheVariants.{Heading, Name, Field, Last}
use Rattle.vpf_head.specs.Bytes.{semicolon, comma, colon}
use Rattle.vpf_head.specs.Faults.{BeginsItem, ItemFault, endless, misended, long, controlled}
use Rattle.vpf_head.specs.Forms.{is_stop, is_separator, holds_control}
use Rattle.vpf_head.specs.Items.{Item, item_ended, item_at, text_at, name_at}
use Rattle.vpf_head.proofs.HeadLaws.{nowhere}
use Rattle.vpf_head.proofs.ItemLaws.{Takes, item_takes, none_before}

-- ---- steps

-- an error came from the first step, or from what follows it
pub bind_err : {A B : Type 0} (r : Result A Place) (f : A → Result B Place) (p : Place) → (r >>= f) ≡ Err p → (r ≡ Err p) ⊎ ((x : A) × (r ≡ Ok x) × (f x ≡ Err p))
bind_err (Ok x) f p e = inr (x, refl, e)
bind_err {A = A} (Err q) f p e = inl (let z : q ≡ p = cc in ap (λ (x : Place). let r : Result A Place = Err x in r) z)

-- ---- items

-- a fault at this offset, for this reason
pub record At (at : ℕ) (why : Code → Type 0) (p : Place) : Type 0 where
  pub code : Code
  pub is : p ≡ fault at code
  pub because : why code

byte_of : (form : Form) (rest : List ℕ) (n : ℕ) → position (is_stop form) rest ≡ Some n → BeginsItem form (take n rest) (get_or rest n 0) rest
byte_of form rest n f =
    let k = position-Some (is_stop form) rest n 0 f in
    record {
      rest = drop (n + 1) rest;
      open_ended = none_before (is_stop form) rest n (omega (arith, k.0)) (λ j lt. k.2 j lt);
      stops = k.1;
      parts = sym (take-append-drop n rest) ∙ ap (λ (x : List ℕ). take n rest ++ x) (drop_more rest n 0 k.0);
    }

ended_faults : (form : Form) (named : Bool) (rest : List ℕ) (at : ℕ) (o : Option ℕ) (p : Place) → position (is_stop form) rest ≡ o → item_ended form rest at o ≡ Err p → At at (ItemFault form named rest) p
ended_faults form named rest at None p f e = record { code = codes.ItemEnd; is = sym (err_is e); because = endless (nowhere (is_stop form) rest f) }
ended_faults form named rest at (Some n) p f e = by (is_separator form (get_or rest n 0)) refl e
  where
    by : (t : Bool) → is_separator form (get_or rest n 0) ≡ t → cond t (Ok (record { text = take n rest; stop = get_or rest n 0; past = at + n + 1 })) (Err (fault at codes.ItemSeparator)) ≡ failed {A = Item} p → At at (ItemFault form named rest) p
    by true s g = absurd cc
    by false s g = record { code = codes.ItemSeparator; is = sym (err_is g); because = misended (take n rest) (get_or rest n 0) (byte_of form rest n f) s }

item_faults : (form : Form) (named : Bool) (text : List ℕ) (at : ℕ) (p : Place) → item_at form text at ≡ Err p → At at (ItemFault form named (drop at text)) p
unfolding item_at
item_faults form named text at p e = ended_faults form named (drop at text) at (position (is_stop form) (drop at text)) p refl e

separator_stops : (form : Form) (b : ℕ) → is_separator form b ≡ true → is_stop form b ≡ true
separator_stops Heading b e = e
separator_stops Name b e = rw e refl
separator_stops Field b e = rw e refl
separator_stops Last b e = by (nat_eq b comma) (nat_eq b colon) (nat_eq b semicolon) e
  where
    by : (x y z : Bool) → (x || y) ≡ true → (x || y || z) ≡ true
    by true y z f = refl
    by false true z f = refl
    by false false z f = absurd cc

begins : (form : Form) (text : List ℕ) (at : ℕ) (item : Item) → Takes form text at item → BeginsItem form item.text item.stop (drop at text)
begins form text at item t = record { rest = drop item.past text; open_ended = t.open_ended; stops = separator_stops form item.stop t.may; parts = t.split }

pub text_faults : (form : Form) (text : List ℕ) (at : ℕ) (p : Place) → text_at form text at ≡ Err p → At at (ItemFault form false (drop at text)) p
unfolding text_at
text_faults form text at p e = elim (bind_err (item_at form text at) (λ i. cond (holds_control i.text) (Err (fault at codes.ItemByte)) (Ok i)) p e) [
  | inl f ↦ item_faults form false text at p f
  | inr x ↦ by x.0 (item_takes form text at x.0 x.1) (holds_control x.0.text) refl x.2
]
  where
    by : (i : Item) → Takes form text at i → (t : Bool) → holds_control i.text ≡ t → cond t (Err (fault at codes.ItemByte)) (Ok i) ≡ failed {A = Item} p → At at (ItemFault form false (drop at text)) p
    by i k true h g = record { code = codes.ItemByte; is = sym (err_is g); because = controlled i.text i.stop (begins form text at i k) k.may (λ z. absurd cc) h }
    by i k false h g = absurd cc

pub name_faults : (form : Form) (text : List ℕ) (at : ℕ) (p : Place) → name_at form text at ≡ Err p → At at (ItemFault form true (drop at text)) p
unfolding name_at
name_faults form text at p e = elim (bind_err (item_at form text at) (λ i. cond (ltb longest_name (length i.text)) (Err (fault at (codes.LimitName (length i.text)))) (cond (holds_control i.text) (Err (fault at codes.ItemByte)) (Ok i))) p e) [
  | inl f ↦ item_faults form true text at p f
  | inr x ↦ by x.0 (item_takes form text at x.0 x.1) (ltb longest_name (length x.0.text)) (holds_control x.0.text) refl refl x.2
]
  where
    by : (i : Item) → Takes form text at i → (l t : Bool) → ltb longest_name (length i.text) ≡ l → holds_control i.text ≡ t → cond l (Err (fault at (codes.LimitName (length i.text)))) (cond t (Err (fault at codes.ItemByte)) (Ok i)) ≡ failed {A = Item} p
        → At at (ItemFault form true (drop at text)) p
    by i k true t q h g = record { code = codes.LimitName (length i.text); is = sym (err_is g); because = long i.text i.stop (begins form text at i k) k.may refl (ltb-true longest_name (length i.text) q) }
    by i k false true q h g = record { code = codes.ItemByte; is = sym (err_is g); because = controlled i.text i.stop (begins form text at i k) k.may (λ z. ltb-false longest_name (length i.text) q) h }
    by i k false false q h g = absurd cc
