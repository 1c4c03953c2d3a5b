-- What the first bytes of a cell tell of it.
use Rattle.std.proofs.Common.{[], ◌≡◌, ℕ, zero, suc, ◌+◌, ◌*◌, ◌<◌, ◌≤◌, ◌^◌, Bool, true, false, cond, ltb, List, ◌∷◌, ◌++◌, length, take, Some, None, Ok, Err, refl, sym, ap, ◌∙◌, append-nil, arith}
use Rattle.std.specs.Prelude.{◌≢◌}
use Rattle.std.specs.Int.{w32}
use Rattle.std.proofs.lemmas.Bool.{lt-ltb, le-ltb, ltb-true, ltb-false}
use Rattle.std.proofs.lemmas.List.{length-append}
use Rattle.vpf_base.specs.Bytes.{IsBytes}
use Rattle.vpf_base.specs.Results.{◌>>=◌}
use Rattle.vpf_base.specs.declared.orders.Order.{Order}
use Rattle.vpf_triplet.specs.declared.kinds.Kind.{Kind}
use Rattle.vpf_triplet.specs.declared.kinds.Kind.TheVariants as kinds
use Rattle.vpf_triplet.specs.declared.kinds.Count.{Count}
use Rattle.vpf_triplet.specs.declared.kinds.Count.TheVariants.{Fixed, Star}
use Rattle.vpf_triplet.specs.declared.places.Code.{Code}
use Rattle.vpf_triplet.specs.declared.places.Code.TheVariants as codes
use Rattle.vpf_triplet.specs.declared.sizes.Size.{Size}
use Rattle.vpf_triplet.specs.declared.sizes.Size.TheVariants.{Absent, One, Two, Four}
use Rattle.vpf_triplet.specs.Faults as triplets
use Rattle.vpf_triplet.specs.Faults.{FirstTripletFault}
use Rattle.vpf_triplet.specs.Sizes.{size_bytes}
use Rattle.vpf_base.specs.Numbers.{number_of}
use Rattle.vpf_value.specs.declared.coords.WordWidth.{WordWidth}
use Rattle.vpf_value.specs.declared.coords.WordWidth.TheVariants as widths
use Rattle.vpf_value.specs.declared.coords.Tuple.{Tuple}
use Rattle.vpf_value.specs.declared.coords.Tuple.TheVariants.{Pair, Triple}
use Rattle.vpf_value.specs.Faults.{FirstCellFault}
use Rattle.vpf_value.specs.Values.{Value, TextOf}
use Rattle.vpf_value.specs.Words.{word_bytes, tuple_len}
use Rattle.vpf_value.specs.Reading.{CellAnswer, sized, text_from, tuples_from, counted_from, many_from, cell_from}
use Rattle.vpf_table.specs.Inner.Lower.{CellAndHeaderLaws}
use Rattle.vpf_feed.proofs.staying.Staying.{number4_stays, cell_goes_on, cell_stays_refused}
use Rattle.vpf_feed.specs.declared.row_form.form.Field.{Field}
use Rattle.vpf_feed.specs.declared.row_form.looking.Look.TheVariants as looks
use Rattle.vpf_feed.specs.Inner.RowForm.Form.{extent, cell_size, IsCutEmpty}
use Rattle.vpf_feed.specs.Inner.RowForm.Told.{told_many, told}
use Rattle.vpf_feed.specs.Inner.RowForm.Walk.{sized_end, TellsCell}
use Rattle.vpf_base.proofs.Options.{some_is}

-- ---- sizes that are told

ends : (b : Bool) (v : Value) (n : ℕ) → extent (cond b (Err codes.CellCut) (Ok (v, n))) ≡ cond b (Err codes.CellCut) (Ok n)
ends true v n = refl
ends false v n = refl

pub sized_is : (n : ℕ) (v : Value) (bytes : List ℕ) → extent (sized n v bytes) ≡ sized_end n bytes
unfolding sized
sized_is n v bytes = ends (ltb (length bytes) n) v n

-- a reader whose cells take so many bytes for each value that is counted
abbrev TakesEach : ℕ → (ℕ → List ℕ → CellAnswer) → Type 0
TakesEach size read = (n : ℕ) (bytes : List ℕ) → extent (read n bytes) ≡ sized_end (size * n) bytes

text_each : TakesEach 1 text_from
text_each n bytes = let e : n ≡ 1 * n = omega arith in sized_is n (TextOf (take n bytes)) bytes ∙ ap (λ (k : ℕ). sized_end k bytes) e

tuples_each : (o : Order) (w : WordWidth) (t : Tuple) (size : ℕ) → ((n : ℕ) → word_bytes w * (tuple_len t * n) ≡ size * n) → TakesEach size (tuples_from o w t)
tuples_each o w t size e n bytes = sized_is (word_bytes w * (tuple_len t * n)) _ bytes ∙ ap (λ (k : ℕ). sized_end k bytes) (e n)

behind : (m : ℕ) (r : CellAnswer) (bytes rest : List ℕ) → length bytes ≡ 4 + length rest → extent r ≡ sized_end m rest → extent (r >>= λ x. Ok (x.0, 4 + x.1)) ≡ sized_end (4 + m) bytes
behind m r bytes rest l e = by (ltb (length rest) m) refl r e
  where
    by : (b : Bool) → ltb (length rest) m ≡ b → (r : CellAnswer) → extent r ≡ cond b (Err codes.CellCut) (Ok m) → extent (r >>= λ x. Ok (x.0, 4 + x.1)) ≡ sized_end (4 + m) bytes
    by true q (Ok x) f = absurd cc
    by true q (Err code) f = rw (lt-ltb (length bytes) (4 + m) (omega (arith, l, ltb-true _ _ q))) f
    by false q (Ok x) f = let n : x.1 ≡ m = cc in rw (le-ltb (length bytes) (4 + m) (omega (arith, l, ltb-false _ _ q))) (ap (λ (k : ℕ). Ok (4 + k)) n)
    by false q (Err code) f = absurd cc

counted_is : (o : Order) (read : ℕ → List ℕ → CellAnswer) (size : ℕ) (bytes : List ℕ) → TakesEach size read → 4 ≤ length bytes → extent (counted_from o read bytes) ≡ sized_end (4 + size * number_of o w32 bytes) bytes
unfolding counted_from
counted_is o read size [] each h = absurd (omega arith)
counted_is o read size (a ∷ []) each h = absurd (omega arith)
counted_is o read size (a ∷ b ∷ []) each h = absurd (omega arith)
counted_is o read size (a ∷ b ∷ c ∷ []) each h = absurd (omega arith)
counted_is o read size (a ∷ b ∷ c ∷ d ∷ rest) each h =
    let n = number_of o w32 (a ∷ b ∷ c ∷ d ∷ rest) in
    rw (le-ltb (length (a ∷ b ∷ c ∷ d ∷ rest)) 4 h) (behind (size * n) (read n rest) (a ∷ b ∷ c ∷ d ∷ rest) rest (omega arith) (each n rest))

counted_cut : (o : Order) (read : ℕ → List ℕ → CellAnswer) (bytes : List ℕ) → length bytes < 4 → extent (counted_from o read bytes) ≡ Err codes.CellCut
unfolding counted_from
counted_cut o read bytes h = rw (lt-ltb (length bytes) 4 h) refl

told_star : (o : Order) (size : ℕ) (bytes : List ℕ) (n : ℕ) → told_many o size Star bytes ≡ Some n → (4 ≤ length bytes) × (4 + size * number_of o w32 bytes ≡ n)
told_star o size bytes n e = by (ltb (length bytes) 4) refl e
  where
    by : (b : Bool) → ltb (length bytes) 4 ≡ b → cond b None (Some (4 + size * number_of o w32 bytes)) ≡ Some n → (4 ≤ length bytes) × (4 + size * number_of o w32 bytes ≡ n)
    by true q f = absurd cc
    by false q f = (ltb-false _ _ q, some_is _ _ f)

many_told : (o : Order) (read : ℕ → List ℕ → CellAnswer) (size : ℕ) (count : Count) (bytes more : List ℕ) (n : ℕ) → TakesEach size read → told_many o size count bytes ≡ Some n
    → extent (many_from o read count (bytes ++ more)) ≡ sized_end n (bytes ++ more)
many_told o read size (Fixed m) bytes more n each e = each m (bytes ++ more) ∙ ap (λ (k : ℕ). sized_end k (bytes ++ more)) (some_is _ _ e)
many_told o read size Star bytes more n each e =
    let t = told_star o size bytes n e in
    let k : 4 + size * number_of o w32 (bytes ++ more) ≡ n = ap (λ (m : ℕ). 4 + size * m) (number4_stays o bytes more t.0) ∙ t.1 in
    counted_is o read size (bytes ++ more) each (omega (arith, t.0, length-append bytes more)) ∙ ap (λ (m : ℕ). sized_end m (bytes ++ more)) k

pub told_is : (o : Order) (kind : Kind) (count : Count) (bytes more : List ℕ) (n : ℕ) → told o kind count bytes ≡ Some n → extent (cell_from o kind count (bytes ++ more)) ≡ sized_end n (bytes ++ more)
told_is o kinds.T count bytes more n e = many_told o text_from 1 count bytes more n text_each e
told_is o kinds.L count bytes more n e = many_told o text_from 1 count bytes more n text_each e
told_is o kinds.M count bytes more n e = many_told o text_from 1 count bytes more n text_each e
told_is o kinds.N count bytes more n e = many_told o text_from 1 count bytes more n text_each e
told_is o kinds.F count bytes more n e = sized_is 4 _ (bytes ++ more) ∙ ap (λ (k : ℕ). sized_end k (bytes ++ more)) (some_is _ _ e)
told_is o kinds.R count bytes more n e = sized_is 8 _ (bytes ++ more) ∙ ap (λ (k : ℕ). sized_end k (bytes ++ more)) (some_is _ _ e)
told_is o kinds.S count bytes more n e = sized_is 2 _ (bytes ++ more) ∙ ap (λ (k : ℕ). sized_end k (bytes ++ more)) (some_is _ _ e)
told_is o kinds.I count bytes more n e = sized_is 4 _ (bytes ++ more) ∙ ap (λ (k : ℕ). sized_end k (bytes ++ more)) (some_is _ _ e)
told_is o kinds.D count bytes more n e = sized_is 20 _ (bytes ++ more) ∙ ap (λ (k : ℕ). sized_end k (bytes ++ more)) (some_is _ _ e)
told_is o kinds.X count bytes more n e = let z : 0 ≡ n = some_is _ _ e in rw (← z, le-ltb (length (bytes ++ more)) 0 (omega arith)) refl
told_is o kinds.K count bytes more n e = absurd cc
told_is o kinds.C count bytes more n e = many_told o (tuples_from o widths.Four Pair) 8 count bytes more n (tuples_each o widths.Four Pair 8 (λ k. omega arith)) e
told_is o kinds.B count bytes more n e = many_told o (tuples_from o widths.Eight Pair) 16 count bytes more n (tuples_each o widths.Eight Pair 16 (λ k. omega arith)) e
told_is o kinds.Z count bytes more n e = many_told o (tuples_from o widths.Four Triple) 12 count bytes more n (tuples_each o widths.Four Triple 12 (λ k. omega arith)) e
told_is o kinds.Y count bytes more n e = many_told o (tuples_from o widths.Eight Triple) 24 count bytes more n (tuples_each o widths.Eight Triple 24 (λ k. omega arith)) e

-- ---- too few bytes to tell

few_many : (o : Order) (size : ℕ) (count : Count) (bytes : List ℕ) → told_many o size count bytes ≡ None → length bytes < 13
few_many o size (Fixed n) bytes e = absurd cc
few_many o size Star bytes e = by (ltb (length bytes) 4) refl e
  where
    by : (b : Bool) → ltb (length bytes) 4 ≡ b → cond b None (Some (4 + size * number_of o w32 bytes)) ≡ None → length bytes < 13
    by true q f = omega (arith, ltb-true _ _ q)
    by false q f = absurd cc

most_part : (s : Size) → size_bytes s ≤ 4
most_part Absent = omega arith
most_part One = omega arith
most_part Two = omega arith
most_part Four = omega arith

few_triplet : (o : Order) (bytes : List ℕ) (code : Code) → FirstTripletFault o bytes code → code ≡ codes.CellCut → length bytes < 13
few_triplet o bytes code triplets.no_type e = omega arith
few_triplet o bytes code (triplets.reserved first rest h) e = absurd cc
few_triplet o bytes code (triplets.cut a b c rest h) e = omega (arith, h, most_part a, most_part b, most_part c)
few_triplet o bytes code (triplets.large_id a b c rest h l) e = absurd cc
few_triplet o bytes code (triplets.large_tile a b c rest h l) e = absurd cc
few_triplet o bytes code (triplets.large_ext a b c rest h l) e = absurd cc

few : (o : Order) (kind : Kind) (count : Count) (bytes : List ℕ) → FirstCellFault o kind count bytes codes.CellCut → told o kind count bytes ≡ None → length bytes < 13
few o kinds.T count bytes h e = few_many o 1 count bytes e
few o kinds.L count bytes h e = few_many o 1 count bytes e
few o kinds.M count bytes h e = few_many o 1 count bytes e
few o kinds.N count bytes h e = few_many o 1 count bytes e
few o kinds.F count bytes h e = absurd cc
few o kinds.R count bytes h e = absurd cc
few o kinds.S count bytes h e = absurd cc
few o kinds.I count bytes h e = absurd cc
few o kinds.D count bytes h e = absurd cc
few o kinds.X count bytes h e = absurd h
few o kinds.K count bytes h e = few_triplet o bytes codes.CellCut h refl
few o kinds.C count bytes h e = few_many o 8 count bytes e
few o kinds.B count bytes h e = few_many o 16 count bytes e
few o kinds.Z count bytes h e = few_many o 12 count bytes e
few o kinds.Y count bytes h e = few_many o 24 count bytes e

-- ---- looking

fails_by : (r : CellAnswer) (code : Code) → extent r ≡ Err code → r ≡ Err code
fails_by (Ok x) code e = absurd cc
fails_by (Err q) code e = let k : q ≡ code = cc in ap (λ (c : Code). Err c) k

pub whole_tells : CellAndHeaderLaws → (o : Order) (f : Field) (bytes : List ℕ) (v : Value) (n : ℕ) → IsBytes bytes → IsCutEmpty f → cell_from o f.kind f.count bytes ≡ Ok (v, n) → TellsCell o f bytes (looks.Whole n)
whole_tells laws o f bytes v zero fits cut e =
    let s = laws.cell_is_spelled o f.kind f.count bytes v 0 fits e in
    absurd (let z = ap extent (laws.cell_is_read o f.kind f.count v [] [] s.1) in let k = cut o in cc)
whole_tells laws o f bytes v (suc n) fits cut e =
    let s = laws.cell_is_spelled o f.kind f.count bytes v (suc n) fits e in
    (omega arith, s.0, λ more. ap extent (cell_goes_on laws o f.kind f.count bytes more v (suc n) fits e))

pub refused_tells : CellAndHeaderLaws → (o : Order) (f : Field) (bytes : List ℕ) (code : Code) → IsBytes bytes → code ≢ codes.CellCut → cell_size o f bytes ≡ Err code → TellsCell o f bytes (looks.Refused code)
refused_tells laws o f bytes code fits ne e = λ more. ap extent (cell_stays_refused laws o f.kind f.count bytes more code fits (fails_by (cell_from o f.kind f.count bytes) code e) ne)

pub skip_tells : (o : Order) (f : Field) (bytes : List ℕ) (n : ℕ) → told o f.kind f.count bytes ≡ Some n → n < 2 ^ 40 → cell_size o f bytes ≡ Err codes.CellCut → TellsCell o f bytes (looks.Skip n)
skip_tells o f bytes n t small e =
    let here : extent (cell_from o f.kind f.count bytes) ≡ sized_end n bytes = ap (λ (b : List ℕ). extent (cell_from o f.kind f.count b)) (sym (append-nil bytes)) ∙ told_is o f.kind f.count bytes [] n t ∙ ap (sized_end n) (append-nil bytes) in
    (by (ltb (length bytes) n) refl (sym here ∙ e), small, λ more. told_is o f.kind f.count bytes more n t)
  where
    by : (b : Bool) → ltb (length bytes) n ≡ b → cond b (Err codes.CellCut) (Ok n) ≡ Err codes.CellCut → length bytes < n
    by true q f = ltb-true _ _ q
    by false q f = absurd cc

pub keep_tells : CellAndHeaderLaws → (o : Order) (f : Field) (bytes : List ℕ) → IsBytes bytes → told o f.kind f.count bytes ≡ None → cell_size o f bytes ≡ Err codes.CellCut → TellsCell o f bytes looks.Keep
keep_tells laws o f bytes fits t e = (few o f.kind f.count bytes (laws.cell_fault o f.kind f.count bytes codes.CellCut fits (fails_by (cell_from o f.kind f.count bytes) codes.CellCut e)) t, e)
