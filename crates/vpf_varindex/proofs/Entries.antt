-- Entries: where reading them stops, and each of those that are read.
use Rattle.std.proofs.Common.{◌≡◌, ℕ, zero, suc, ◌+◌, ◌*◌, ◌<◌, ◌≤◌, leb, ltb, List, [], ◌∷◌, length, Some, Result, Ok, Err, refl, sym, ap, ◌∙◌, arith}
use Rattle.std.specs.Prelude.{slice_get}
use Rattle.std.specs.Int.{w32}
use Rattle.std.proofs.lemmas.Bool.{lt-ltb, le-ltb, ltb-false, lt-leb, le-leb, leb-true}
use Rattle.vpf_base.specs.Results.{◌>>=◌}
use Rattle.vpf_base.proofs.Results.{done, ok_is, guarded, passed}
use Rattle.vpf_base.specs.declared.orders.Order.{Order}
use Rattle.vpf_triplet.specs.declared.places.Place.{Place}
use Rattle.vpf_triplet.specs.declared.places.Code.TheVariants as codes
use Rattle.vpf_base.specs.Numbers.{number_of}
use Rattle.vpf_triplet.specs.Places.{index_fault}
use Rattle.vpf_varindex.specs.Reading.{index_entry, entries_at, index_at}
use Rattle.vpf_varindex.specs.Inner.Views.{entries_of}

abbrev then_entry : ℕ × ℕ → Result (List (ℕ × ℕ)) Place → Result (List (ℕ × ℕ)) Place
then_entry x r = r >>= λ others. Ok (x ∷ others)

then_ok : (x : ℕ × ℕ) (r : Result (List (ℕ × ℕ)) Place) (es : List (ℕ × ℕ)) → then_entry x r ≡ Ok es → (others : List (ℕ × ℕ)) × (r ≡ Ok others) × (es ≡ x ∷ others)
then_ok x (Ok others) es e = (others, refl, sym (ok_is {x = (x ∷ others)} {y = es} e))
then_ok x (Err p) es e = absurd cc

-- the first of the entries that are read, and the others
pub record Opens (n : ℕ) (o : Order) (bytes : List ℕ) (at : ℕ) (es : List (ℕ × ℕ)) : Type 0 where
  pub others : List (ℕ × ℕ)
  pub room : at + 8 ≤ length bytes
  pub rest : entries_at n o bytes (at + 8) ≡ Ok others
  pub is : es ≡ index_entry o bytes at ∷ others

pub opens : (n : ℕ) (o : Order) (bytes : List ℕ) (at : ℕ) (es : List (ℕ × ℕ)) → entries_at (suc n) o bytes at ≡ Ok es → Opens n o bytes at es
unfolding entries_at
opens n o bytes at es e =
    let p = guarded (ltb (length bytes) (at + 8)) (index_fault at codes.IndexCut) (then_entry (index_entry o bytes at) (entries_at n o bytes (at + 8))) es e in
    let t = then_ok (index_entry o bytes at) (entries_at n o bytes (at + 8)) es p.1 in
    record { others = t.0; room = ltb-false _ _ p.0; rest = t.1; is = t.2 }

pub closes : (o : Order) (bytes : List ℕ) (at : ℕ) (es : List (ℕ × ℕ)) → entries_at zero o bytes at ≡ Ok es → (length bytes ≤ at) × (es ≡ [])
unfolding entries_at
closes o bytes at es e =
    let p = passed (leb (length bytes) at) (index_fault at codes.IndexExtra) (done []) es e in
    (leb-true _ _ p.0, sym (ok_is {x = []} {y = es} p.1))

pub length-entries : (n : ℕ) (o : Order) (bytes : List ℕ) (at : ℕ) (es : List (ℕ × ℕ)) → entries_at n o bytes at ≡ Ok es → length es ≡ n
length-entries zero o bytes at es e = ap length (closes o bytes at es e).1
length-entries (suc n) o bytes at es e =
    let s = opens n o bytes at es e in
    ap length s.is ∙ ap suc (length-entries n o bytes (at + 8) s.others s.rest)

-- entry k, counted from 0
pub record Stands (o : Order) (bytes : List ℕ) (at : ℕ) (es : List (ℕ × ℕ)) (k : ℕ) : Type 0 where
  pub room : at + 8 ≤ length bytes
  pub item : slice_get es k ≡ Some (index_entry o bytes at)

item_zero : (es others : List (ℕ × ℕ)) (x : ℕ × ℕ) → es ≡ x ∷ others → slice_get es 0 ≡ Some x
item_zero es others x e = rw e refl

item_suc : (es others : List (ℕ × ℕ)) (x y : ℕ × ℕ) (k : ℕ) → es ≡ x ∷ others → slice_get others k ≡ Some y → slice_get es (suc k) ≡ Some y
item_suc es others x y k e h = rw e h

pub stands : (n : ℕ) (o : Order) (bytes : List ℕ) (at here : ℕ) (es : List (ℕ × ℕ)) (k : ℕ) → entries_at n o bytes at ≡ Ok es → k < length es → here ≡ at + k * 8 → Stands o bytes here es k
stands zero o bytes at here es k e h z = absurd (omega (arith, length-entries 0 o bytes at es e))
stands (suc n) o bytes at here es zero e h z =
    let s = opens n o bytes at es e in
    let same : here ≡ at = omega arith in
    rw same (record { room = s.room; item = item_zero es s.others (index_entry o bytes at) s.is })
stands (suc n) o bytes at here es (suc k) e h z =
    let s = opens n o bytes at es e in
    let t = stands n o bytes (at + 8) here s.others k s.rest (omega (arith, h, ap length s.is)) (omega arith) in
    record { room = t.room; item = item_suc es s.others (index_entry o bytes at) (index_entry o bytes here) k s.is t.item }

-- ---- as many bytes as are there

then_err : (x : ℕ × ℕ) (r : Result (List (ℕ × ℕ)) Place) (p : Place) → r ≡ Err p → then_entry x r ≡ Err p
then_err x r p e = rw e refl

-- the entry that isn't whole
pub entries_cut : (n : ℕ) (o : Order) (bytes : List ℕ) (at k here : ℕ) → here ≡ at + k * 8 → here ≤ length bytes → length bytes < here + 8 → k < n → entries_at n o bytes at ≡ Err (index_fault here codes.IndexCut)
unfolding entries_at
entries_cut zero o bytes at k here z low high h = absurd (omega arith)
entries_cut (suc n) o bytes at zero here z low high h =
    let same : here ≡ at = omega arith in
    rw (lt-ltb (length bytes) (at + 8) (omega arith), same) refl
entries_cut (suc n) o bytes at (suc k) here z low high h =
    rw (le-ltb (length bytes) (at + 8) (omega arith)) (then_err _ _ _ (entries_cut n o bytes (at + 8) k here (omega arith) low high (omega arith)))

-- the bytes after the last entry
pub entries_extra : (n : ℕ) (o : Order) (bytes : List ℕ) (at here : ℕ) → here ≡ at + n * 8 → here < length bytes → entries_at n o bytes at ≡ Err (index_fault here codes.IndexExtra)
unfolding entries_at
entries_extra zero o bytes at here z h =
    let same : here ≡ at = omega arith in
    rw (lt-leb (length bytes) at (omega arith), same) refl
entries_extra (suc n) o bytes at here z h =
    rw (le-ltb (length bytes) (at + 8) (omega arith)) (then_err _ _ _ (entries_extra n o bytes (at + 8) here (omega arith) h))

-- entries that are whole, and nothing after them
pub entries_whole : (n : ℕ) (o : Order) (bytes : List ℕ) (at : ℕ) → length bytes ≡ at + n * 8 → (es : List (ℕ × ℕ)) × (entries_at n o bytes at ≡ Ok es)
unfolding entries_at
entries_whole zero o bytes at h = ([], rw (le-leb (length bytes) at (omega arith)) refl)
entries_whole (suc n) o bytes at h =
    let others = entries_whole n o bytes (at + 8) (omega arith) in
    (index_entry o bytes at ∷ others.0, rw (le-ltb (length bytes) (at + 8) (omega arith), others.1) refl)

-- ---- whole indexes

pub index_short : (o : Order) (bytes : List ℕ) → length bytes < 8 → index_at o bytes ≡ Err (index_fault 0 codes.IndexCut)
unfolding index_at
index_short o bytes h = rw (lt-ltb (length bytes) 8 h) refl

pub index_cut : (o : Order) (bytes : List ℕ) (n k here : ℕ) → 8 ≤ length bytes → n ≡ number_of o w32 bytes → here ≡ 8 + k * 8 → here ≤ length bytes → length bytes < here + 8 → k < n → index_at o bytes ≡ Err (index_fault here codes.IndexCut)
unfolding index_at
index_cut o bytes n k here long e z low high h = rw (le-ltb (length bytes) 8 long, ← e) (entries_cut n o bytes 8 k here z low high h)

pub index_extra : (o : Order) (bytes : List ℕ) (n here : ℕ) → 8 ≤ length bytes → n ≡ number_of o w32 bytes → here ≡ 8 + n * 8 → here < length bytes → index_at o bytes ≡ Err (index_fault here codes.IndexExtra)
unfolding index_at
index_extra o bytes n here long e z h = rw (le-ltb (length bytes) 8 long, ← e) (entries_extra n o bytes 8 here z h)

-- so many entries are read
pub record IsWhole (o : Order) (bytes : List ℕ) (n : ℕ) : Type 0 where
  pub read : index_at o bytes ≡ Ok (entries_of (index_at o bytes))
  pub count : n ≡ length (entries_of (index_at o bytes))

whole_by : (o : Order) (bytes : List ℕ) (n : ℕ) (es : List (ℕ × ℕ)) → index_at o bytes ≡ Ok es → length es ≡ n → IsWhole o bytes n
whole_by o bytes n es e h =
    let same : entries_of (index_at o bytes) ≡ es = ap entries_of e in
    record { read = rw same e; count = rw same (sym h) }

pub index_whole : (o : Order) (bytes : List ℕ) (n : ℕ) → 8 ≤ length bytes → n ≡ number_of o w32 bytes → length bytes ≡ 8 + n * 8 → IsWhole o bytes n
unfolding index_at
index_whole o bytes n long e h =
    let es = entries_whole n o bytes 8 h in
    whole_by o bytes n es.0 (rw (le-ltb (length bytes) 8 long, ← e) es.1) (length-entries n o bytes 8 es.0 es.1)

-- entry k of an index, counted from 0
pub entry_stands : (o : Order) (bytes : List ℕ) (es : List (ℕ × ℕ)) (k here : ℕ) → index_at o bytes ≡ Ok es → k < length es → here ≡ 8 + k * 8 → Stands o bytes here es k
unfolding index_at
entry_stands o bytes es k here e h z =
    let p = guarded (ltb (length bytes) 8) (index_fault 0 codes.IndexCut) (entries_at (number_of o w32 bytes) o bytes 8) es e in
    stands (number_of o w32 bytes) o bytes 8 here es k p.1 h z
