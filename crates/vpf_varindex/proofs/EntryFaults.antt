-- An index is refused exactly at its first fault.
use Rattle.std.proofs.Common.{◌≡◌, ℕ, zero, suc, ◌+◌, ◌*◌, ◌<◌, ◌≤◌, Bool, true, false, cond, leb, ltb, List, [], ◌∷◌, length, Result, Ok, Err, refl, sym, ap, subst, ◌∙◌, arith}
use Rattle.std.specs.Int.{w32}
use Rattle.std.proofs.lemmas.Bool.{ltb-true, ltb-false, leb-false}
use Rattle.vpf_base.specs.Results.{◌>>=◌}
use Rattle.vpf_base.proofs.Results.{failed, err_is}
use Rattle.vpf_base.specs.declared.orders.Order.{Order}
use Rattle.vpf_triplet.specs.declared.places.Place.{Place}
use Rattle.vpf_triplet.specs.declared.places.Code.TheVariants as codes
use Rattle.vpf_base.specs.Numbers.{number_of}
use Rattle.vpf_triplet.specs.Places.{index_fault}
use Rattle.vpf_varindex.specs.Faults as faults
use Rattle.vpf_varindex.specs.Faults.{index_entry_start, entry_count, FirstIndexFault}
use Rattle.vpf_varindex.specs.Reading.{index_entry, entries_at, index_at}
use Rattle.vpf_varindex.proofs.Entries.{index_short, index_cut, index_extra}

-- so many entries from an offset on are refused at this place
data EntriesFault (n : ℕ) (bytes : List ℕ) (at : ℕ) (p : Place) : Type 0 where
  cut : (k : ℕ) → k < n → at + k * 8 ≤ length bytes → length bytes < at + k * 8 + 8 → index_fault (at + k * 8) codes.IndexCut ≡ p → EntriesFault n bytes at p
  extra : at + n * 8 < length bytes → index_fault (at + n * 8) codes.IndexExtra ≡ p → EntriesFault n bytes at p

-- the same, with one entry before them
later : (n : ℕ) (bytes : List ℕ) (at : ℕ) (p : Place) → EntriesFault n bytes (at + 8) p → EntriesFault (suc n) bytes at p
later n bytes at p (cut k h low high is) =
    let z : at + 8 + k * 8 ≡ at + suc k * 8 = omega arith in
    cut (suc k) (omega (arith, h)) (omega (arith, low)) (omega (arith, high)) (ap (λ (i : ℕ). index_fault i codes.IndexCut) (sym z) ∙ is)
later n bytes at p (extra h is) =
    let z : at + 8 + n * 8 ≡ at + suc n * 8 = omega arith in
    extra (omega (arith, h)) (ap (λ (i : ℕ). index_fault i codes.IndexExtra) (sym z) ∙ is)

then_failed : (x : ℕ × ℕ) (r : Result (List (ℕ × ℕ)) Place) (p : Place) → (r >>= λ others. Ok (x ∷ others)) ≡ failed p → r ≡ Err p
then_failed x (Ok others) p e = absurd cc
then_failed x (Err q) p e = let k : q ≡ p = cc in ap failed k

entries_fault : (n : ℕ) (o : Order) (bytes : List ℕ) (at : ℕ) (p : Place) → at ≤ length bytes → entries_at n o bytes at ≡ Err p → EntriesFault n bytes at p
unfolding entries_at
entries_fault zero o bytes at p h e = by (leb (length bytes) at) refl e
  where
    by : (t : Bool) → leb (length bytes) at ≡ t → cond t (Ok []) (Err (index_fault at codes.IndexExtra)) ≡ failed {A = List (ℕ × ℕ)} p → EntriesFault zero bytes at p
    by true q f = absurd cc
    by false q f =
        let z : at ≡ at + 0 * 8 = omega arith in
        extra (omega (arith, leb-false (length bytes) at q)) (ap (λ (i : ℕ). index_fault i codes.IndexExtra) (sym z) ∙ err_is f)
entries_fault (suc n) o bytes at p h e = by (λ room more. entries_fault n o bytes (at + 8) p room more) (ltb (length bytes) (at + 8)) refl e
  where
    by : (at + 8 ≤ length bytes → entries_at n o bytes (at + 8) ≡ Err p → EntriesFault n bytes (at + 8) p) → (t : Bool) → ltb (length bytes) (at + 8) ≡ t
        → cond t (Err (index_fault at codes.IndexCut)) (entries_at n o bytes (at + 8) >>= λ others. Ok (index_entry o bytes at ∷ others)) ≡ failed {A = List (ℕ × ℕ)} p → EntriesFault (suc n) bytes at p
    by others true q f =
        let z : at ≡ at + 0 * 8 = omega arith in
        cut 0 (omega arith) (omega (arith, h)) (omega (arith, ltb-true (length bytes) (at + 8) q)) (ap (λ (i : ℕ). index_fault i codes.IndexCut) (sym z) ∙ err_is f)
    by others false q f = later n bytes at p (others (ltb-false (length bytes) (at + 8) q) (then_failed (index_entry o bytes at) (entries_at n o bytes (at + 8)) p f))

whole_fault : (o : Order) (bytes : List ℕ) (p : Place) → EntriesFault (entry_count o bytes) bytes 8 p → FirstIndexFault o bytes p
whole_fault o bytes p (cut k h low high is) = subst (FirstIndexFault o bytes) is (faults.entry_cut k h low (omega (arith, high)))
whole_fault o bytes p (extra h is) = subst (FirstIndexFault o bytes) is (faults.extra h)

pub index_faults : (o : Order) (bytes : List ℕ) (p : Place) → index_at o bytes ≡ Err p → FirstIndexFault o bytes p
unfolding index_at
index_faults o bytes p e = by (ltb (length bytes) 8) refl e
  where
    by : (t : Bool) → ltb (length bytes) 8 ≡ t → cond t (Err (index_fault 0 codes.IndexCut)) (entries_at (number_of o w32 bytes) o bytes 8) ≡ failed {A = List (ℕ × ℕ)} p → FirstIndexFault o bytes p
    by true q f = subst (FirstIndexFault o bytes) (err_is f) (faults.front_cut (ltb-true (length bytes) 8 q))
    by false q f = whole_fault o bytes p (entries_fault (number_of o w32 bytes) o bytes 8 p (ltb-false (length bytes) 8 q) f)

pub fault_refuses : (o : Order) (bytes : List ℕ) (p : Place) → FirstIndexFault o bytes p → index_at o bytes ≡ Err p
fault_refuses o bytes p (faults.front_cut h) = index_short o bytes h
fault_refuses o bytes p (faults.entry_cut k h low high) = index_cut o bytes (entry_count o bytes) k (index_entry_start k) (omega (arith, low)) refl refl low (omega (arith, high)) h
fault_refuses o bytes p (faults.extra h) = index_extra o bytes (entry_count o bytes) (index_entry_start (entry_count o bytes)) (omega (arith, h)) refl refl h
