-- A cell is refused exactly for its first fault.
use Rattle.std.proofs.Common.{◌≡◌, ℕ, ◌+◌, ◌*◌, Bool, true, false, cond, ltb, List, length, drop, Result, Ok, Err, refl, sym, ap, arith, inl, inr}
use Rattle.std.specs.Int.{w32}
use Rattle.std.proofs.lemmas.Bool.{lt-ltb, ltb-true, ltb-false}
use Rattle.std.proofs.lemmas.List.{length-drop}
use Rattle.vpf_triplet.specs.Results.{◌>>=◌}
use Rattle.vpf_triplet.specs.Bytes.{IsBytes}
use Rattle.vpf_base.proofs.Results.{failed, err_is, no_ok}
use Rattle.vpf_base.specs.declared.orders.Order.{Order}
use Rattle.vpf_triplet.specs.declared.kinds.Kind.{Kind}
use Rattle.vpf_triplet.specs.declared.kinds.Kind.TheVariants as kinds
use Rattle.vpf_triplet.specs.declared.kinds.Count.{Count}
use Rattle.vpf_triplet.specs.declared.kinds.Count.TheVariants.{Fixed, Star}
use Rattle.vpf_triplet.specs.declared.places.Code.{Code}
use Rattle.vpf_triplet.specs.declared.places.Code.TheVariants as codes
use Rattle.vpf_triplet.specs.declared.triplets.Triplet.{Triplet}
use Rattle.vpf_triplet.specs.Faults as triplets
use Rattle.vpf_base.specs.Numbers.{number_of}
use Rattle.vpf_triplet.specs.Reading.{triplet_at}
use Rattle.vpf_value.specs.declared.coords.WordWidth.{WordWidth}
use Rattle.vpf_value.specs.declared.coords.WordWidth.TheVariants.{Four, Eight}
use Rattle.vpf_value.specs.declared.coords.Tuple.{Tuple}
use Rattle.vpf_value.specs.declared.coords.Tuple.TheVariants.{Pair, Triple}
use Rattle.vpf_value.specs.Faults.{IsCut, AreCut, FirstCellFault}
use Rattle.vpf_value.specs.Reading.{CellAnswer, sized, text_from, tuples_from, counted_from, triplet_from, many_from, cell_from}
use Rattle.vpf_value.specs.Values.{Value, TripletOf}
use Rattle.vpf_value.specs.Words.{word_bytes, tuple_len}

-- what is known of the faults of triplet ids
abbrev pub TripletFaults : Type 0
TripletFaults = (o : Order) (bytes : List ℕ) (code : Code) → IsBytes bytes → triplet_at o bytes ≡ Err code → triplets.FirstTripletFault o bytes code

abbrev pub TripletRefused : Type 0
TripletRefused = (o : Order) (bytes : List ℕ) (code : Code) → triplets.FirstTripletFault o bytes code → triplet_at o bytes ≡ Err code

-- ---- values of so many bytes

sized_fault : (n : ℕ) (v : Value) (bytes : List ℕ) (code : Code) → sized n v bytes ≡ Err code → IsCut n bytes code
unfolding sized
sized_fault n v bytes code e = by (ltb (length bytes) n) refl e
  where
    by : (t : Bool) → ltb (length bytes) n ≡ t → cond t (Err codes.CellCut) (Ok (v, n)) ≡ failed {A = Value × ℕ} code → IsCut n bytes code
    by true q f = (ltb-true _ _ q, sym (err_is f))
    by false q f = absurd (no_ok (v, n) code f)

sized_refused : (n : ℕ) (v : Value) (bytes : List ℕ) (code : Code) → IsCut n bytes code → sized n v bytes ≡ Err code
unfolding sized
sized_refused n v bytes code h = rw (lt-ltb _ _ h.0, h.1) refl

-- ---- values with a count

abbrev Faults : ℕ → (ℕ → List ℕ → CellAnswer) → Type 0
Faults size read = (n : ℕ) (bytes : List ℕ) (code : Code) → read n bytes ≡ Err code → IsCut (size * n) bytes code

abbrev Refused : ℕ → (ℕ → List ℕ → CellAnswer) → Type 0
Refused size read = (n : ℕ) (bytes : List ℕ) (code : Code) → IsCut (size * n) bytes code → read n bytes ≡ Err code

abbrev behind : CellAnswer → CellAnswer
behind r = r >>= λ x. Ok (x.0, 4 + x.1)

behind_fault : (r : CellAnswer) (code : Code) → behind r ≡ failed code → r ≡ Err code
behind_fault (Ok x) code e = absurd (no_ok (x.0, 4 + x.1) code e)
behind_fault (Err c) code e = ap failed (err_is e)

counted_fault : (o : Order) (size : ℕ) (read : ℕ → List ℕ → CellAnswer) (bytes : List ℕ) (code : Code) → Faults size read → counted_from o read bytes ≡ Err code → AreCut size o Star bytes code
unfolding counted_from
counted_fault o size read bytes code each e = by (ltb (length bytes) 4) refl e
  where
    by : (t : Bool) → ltb (length bytes) 4 ≡ t → cond t (Err codes.CellCut) (behind (read (number_of o w32 bytes) (drop 4 bytes))) ≡ failed {A = Value × ℕ} code → AreCut size o Star bytes code
    by true q f = inl (ltb-true _ _ q, sym (err_is f))
    by false q f =
        let c = each (number_of o w32 bytes) (drop 4 bytes) code (behind_fault (read (number_of o w32 bytes) (drop 4 bytes)) code f) in
        inr (omega (arith, c.0, length-drop 4 bytes), c.1)

counted_refused : (o : Order) (size : ℕ) (read : ℕ → List ℕ → CellAnswer) (bytes : List ℕ) (code : Code) → Refused size read → AreCut size o Star bytes code → counted_from o read bytes ≡ Err code
unfolding counted_from
counted_refused o size read bytes code each (inl h) = rw (lt-ltb _ _ h.0, h.1) refl
counted_refused o size read bytes code each (inr h) = by (ltb (length bytes) 4) refl
  where
    rest : ltb (length bytes) 4 ≡ false → behind (read (number_of o w32 bytes) (drop 4 bytes)) ≡ failed {A = Value × ℕ} code
    rest q = let c = each (number_of o w32 bytes) (drop 4 bytes) code (omega (arith, h.0, length-drop 4 bytes, ltb-false _ _ q), h.1) in rw c refl

    by : (t : Bool) → ltb (length bytes) 4 ≡ t → cond (ltb (length bytes) 4) (Err codes.CellCut) (behind (read (number_of o w32 bytes) (drop 4 bytes))) ≡ failed {A = Value × ℕ} code
    by true q = rw (q, h.1) refl
    by false q = rw q (rest q)

many_fault : (o : Order) (size : ℕ) (read : ℕ → List ℕ → CellAnswer) (count : Count) (bytes : List ℕ) (code : Code) → Faults size read → many_from o read count bytes ≡ Err code → AreCut size o count bytes code
many_fault o size read (Fixed n) bytes code each e = each n bytes code e
many_fault o size read Star bytes code each e = counted_fault o size read bytes code each e

many_refused : (o : Order) (size : ℕ) (read : ℕ → List ℕ → CellAnswer) (count : Count) (bytes : List ℕ) (code : Code) → Refused size read → AreCut size o count bytes code → many_from o read count bytes ≡ Err code
many_refused o size read (Fixed n) bytes code each h = each n bytes code h
many_refused o size read Star bytes code each h = counted_refused o size read bytes code each h

text_faults : Faults 1 text_from
text_faults n bytes code e = let c = sized_fault n _ bytes code e in (omega (arith, c.0), c.1)

text_refused : Refused 1 text_from
text_refused n bytes code h = sized_refused n _ bytes code (omega (arith, h.0), h.1)

tuple_faults : (o : Order) (w : WordWidth) (t : Tuple) (size : ℕ) → ((n : ℕ) → word_bytes w * (tuple_len t * n) ≡ size * n) → Faults size (tuples_from o w t)
tuple_faults o w t size same n bytes code e = let c = sized_fault (word_bytes w * (tuple_len t * n)) _ bytes code e in (rw (← same n) c.0, c.1)

tuple_refused : (o : Order) (w : WordWidth) (t : Tuple) (size : ℕ) → ((n : ℕ) → word_bytes w * (tuple_len t * n) ≡ size * n) → Refused size (tuples_from o w t)
tuple_refused o w t size same n bytes code h = sized_refused (word_bytes w * (tuple_len t * n)) _ bytes code (rw (same n) h.0, h.1)

eight : (n : ℕ) → word_bytes Four * (tuple_len Pair * n) ≡ 8 * n
eight n = omega arith

sixteen : (n : ℕ) → word_bytes Eight * (tuple_len Pair * n) ≡ 16 * n
sixteen n = omega arith

twelve : (n : ℕ) → word_bytes Four * (tuple_len Triple * n) ≡ 12 * n
twelve n = omega arith

twenty_four : (n : ℕ) → word_bytes Eight * (tuple_len Triple * n) ≡ 24 * n
twenty_four n = omega arith

-- ---- triplet ids

abbrev as_value : Result (Triplet × ℕ) Code → CellAnswer
as_value r = r >>= λ x. Ok (TripletOf x.0, x.1)

as_value_fault : (r : Result (Triplet × ℕ) Code) (code : Code) → as_value r ≡ failed code → r ≡ Err code
as_value_fault (Ok x) code e = absurd (no_ok (TripletOf x.0, x.1) code e)
as_value_fault (Err c) code e = let k : c ≡ code = err_is e in ap (λ (d : Code). let r : Result (Triplet × ℕ) Code = Err d in r) k

id_fault : TripletFaults → (o : Order) (bytes : List ℕ) (code : Code) → IsBytes bytes → triplet_from o bytes ≡ Err code → triplets.FirstTripletFault o bytes code
unfolding triplet_from
id_fault tf o bytes code fits e = tf o bytes code fits (as_value_fault (triplet_at o bytes) code e)

id_refused : TripletRefused → (o : Order) (bytes : List ℕ) (code : Code) → triplets.FirstTripletFault o bytes code → triplet_from o bytes ≡ Err code
unfolding triplet_from
id_refused tr o bytes code f = rw (tr o bytes code f) refl

-- ---- cells

pub cell_faults : TripletFaults → (o : Order) (kind : Kind) (count : Count) (bytes : List ℕ) (code : Code) → IsBytes bytes → cell_from o kind count bytes ≡ Err code → FirstCellFault o kind count bytes code
cell_faults tf o kinds.T count bytes code fits e = many_fault o 1 text_from count bytes code text_faults e
cell_faults tf o kinds.L count bytes code fits e = many_fault o 1 text_from count bytes code text_faults e
cell_faults tf o kinds.M count bytes code fits e = many_fault o 1 text_from count bytes code text_faults e
cell_faults tf o kinds.N count bytes code fits e = many_fault o 1 text_from count bytes code text_faults e
cell_faults tf o kinds.F count bytes code fits e = sized_fault 4 _ bytes code e
cell_faults tf o kinds.R count bytes code fits e = sized_fault 8 _ bytes code e
cell_faults tf o kinds.S count bytes code fits e = sized_fault 2 _ bytes code e
cell_faults tf o kinds.I count bytes code fits e = sized_fault 4 _ bytes code e
cell_faults tf o kinds.D count bytes code fits e = sized_fault 20 _ bytes code e
cell_faults tf o kinds.X count bytes code fits e = no_ok _ code e
cell_faults tf o kinds.K count bytes code fits e = id_fault tf o bytes code fits e
cell_faults tf o kinds.C count bytes code fits e = many_fault o 8 (tuples_from o Four Pair) count bytes code (tuple_faults o Four Pair 8 eight) e
cell_faults tf o kinds.B count bytes code fits e = many_fault o 16 (tuples_from o Eight Pair) count bytes code (tuple_faults o Eight Pair 16 sixteen) e
cell_faults tf o kinds.Z count bytes code fits e = many_fault o 12 (tuples_from o Four Triple) count bytes code (tuple_faults o Four Triple 12 twelve) e
cell_faults tf o kinds.Y count bytes code fits e = many_fault o 24 (tuples_from o Eight Triple) count bytes code (tuple_faults o Eight Triple 24 twenty_four) e

pub cell_refused : TripletRefused → (o : Order) (kind : Kind) (count : Count) (bytes : List ℕ) (code : Code) → FirstCellFault o kind count bytes code → cell_from o kind count bytes ≡ Err code
cell_refused tr o kinds.T count bytes code h = many_refused o 1 text_from count bytes code text_refused h
cell_refused tr o kinds.L count bytes code h = many_refused o 1 text_from count bytes code text_refused h
cell_refused tr o kinds.M count bytes code h = many_refused o 1 text_from count bytes code text_refused h
cell_refused tr o kinds.N count bytes code h = many_refused o 1 text_from count bytes code text_refused h
cell_refused tr o kinds.F count bytes code h = sized_refused 4 _ bytes code h
cell_refused tr o kinds.R count bytes code h = sized_refused 8 _ bytes code h
cell_refused tr o kinds.S count bytes code h = sized_refused 2 _ bytes code h
cell_refused tr o kinds.I count bytes code h = sized_refused 4 _ bytes code h
cell_refused tr o kinds.D count bytes code h = sized_refused 20 _ bytes code h
cell_refused tr o kinds.X count bytes code h = absurd h
cell_refused tr o kinds.K count bytes code h = id_refused tr o bytes code h
cell_refused tr o kinds.C count bytes code h = many_refused o 8 (tuples_from o Four Pair) count bytes code (tuple_refused o Four Pair 8 eight) h
cell_refused tr o kinds.B count bytes code h = many_refused o 16 (tuples_from o Eight Pair) count bytes code (tuple_refused o Eight Pair 16 sixteen) h
cell_refused tr o kinds.Z count bytes code h = many_refused o 12 (tuples_from o Four Triple) count bytes code (tuple_refused o Four Triple 12 twelve) h
cell_refused tr o kinds.Y count bytes code h = many_refused o 24 (tuples_from o Eight Triple) count bytes code (tuple_refused o Eight Triple 24 twenty_four) h
