-- What is read is spelled so, and what is spelled so is read: rows.
use Rattle.std.proofs.Common.{◌≡◌, ℕ, zero, suc, ◌+◌, ◌-◌, ◌<◌, ◌≤◌, leb, List, [], ◌∷◌, ◌++◌, length, drop, Ok, Err, refl, sym, ap, subst, ◌∙◌, append_assoc, arith, take-add, inl, inr}
use Rattle.std.specs.Prelude.{slice_range}
use Rattle.std.proofs.lemmas.Bool.{lt-leb, le-leb, leb-true}
use Rattle.std.proofs.lemmas.List.{drop_at, drop-drop, take-append-drop, length-append, length-drop, drop_all}
use Rattle.vpf_base.specs.Limits.{most_rows}
use Rattle.vpf_base.proofs.Booleans.{tested}
use Rattle.vpf_base.proofs.Results.{ok_is, bind_ok}
use Rattle.vpf_base.specs.Results.{◌>>=◌}
use Rattle.vpf_base.specs.Bytes.{IsBytes}
use Rattle.vpf_base.proofs.ByteLists.{IsBytes-drop}
use Rattle.vpf_base.specs.declared.orders.Order.{Order}
use Rattle.vpf_triplet.specs.declared.places.Code.TheVariants as codes
use Rattle.vpf_triplet.specs.Places.{fault}
use Rattle.vpf_findings.specs.Reading.{cell_from}
use Rattle.vpf_findings.specs.Spelling.{IsCell}
use Rattle.vpf_head.specs.Head.{Col}
use Rattle.vpf_table.specs.Grid.{Row}
use Rattle.vpf_table.specs.Reading.{cell_in, row_at, rows_at}
use Rattle.vpf_table.specs.Spelling.{IsRow, IsRows}
use Rattle.vpf_table.specs.Inner.Lower.{CellAndHeaderLaws}
use Rattle.vpf_table.proofs.Parts.{lifted_ok, rows}

-- rows of these columns take at least a byte each
abbrev pub HasRoom : Order → List Col → Type 0
HasRoom o cs = (r : Row) (x : List ℕ) → IsRow o cs r x → 0 < length x

-- a range of the bytes in two parts
range_parts : (bytes : List ℕ) (a m n : ℕ) → a ≤ m → m ≤ n → slice_range bytes a n ≡ slice_range bytes a m ++ slice_range bytes m n
range_parts bytes a m n h k =
    let e : n - a ≡ (m - a) + (n - m) = omega arith in
    let d : a + (m - a) ≡ m = omega arith in
    rw (e, take-add (m - a) (n - m) (drop a bytes), drop-drop (m - a) a bytes, d) refl

pub row_again : CellAndHeaderLaws → (o : Order) (cs : List Col) (r : Row) (bytes : List ℕ) (at : ℕ) (text rest : List ℕ) → drop at bytes ≡ text ++ rest → IsRow o cs r text → row_at o cs bytes at ≡ Ok (r, at + length text)
unfolding row_at
row_again laws o [] [] bytes at text rest e h = let z : at ≡ at + length text = omega (arith, ap length h) in ap (λ (k : ℕ). Ok ([], k)) z
row_again laws o [] (v ∷ vs) bytes at text rest e h = absurd h
row_again laws o (c ∷ cs) [] bytes at text rest e h = absurd h
row_again laws o (c ∷ cs) (v ∷ vs) bytes at text rest e h =
    let x = h.0 in
    let y = h.1 in
    let split : drop at bytes ≡ x ++ (y ++ rest) = e ∙ ap (λ (t : List ℕ). t ++ rest) h.2 ∙ append_assoc x y rest in
    let cell : cell_from o c.kind c.count (drop at bytes) ≡ Ok (v, length x) = ap (cell_from o c.kind c.count) split ∙ laws.cell_is_read o c.kind c.count v x (y ++ rest) h.3 in
    let left : drop (at + length x) bytes ≡ y ++ rest = sym (drop-drop (length x) at bytes) ∙ ap (drop (length x)) split ∙ drop_at x (y ++ rest) (length x) refl in
    let more = row_again laws o cs vs bytes (at + length x) y rest left h.4 in
    let len : at + length x + length y ≡ at + length text = omega (arith, ap length h.2, length-append x y) in
    rw (cell, more, len) refl

pub row_takes : CellAndHeaderLaws → (o : Order) (cs : List Col) (bytes : List ℕ) (at : ℕ) (r : Row) (n : ℕ) → IsBytes bytes → at ≤ length bytes → row_at o cs bytes at ≡ Ok (r, n)
    → (at ≤ n) × (n ≤ length bytes) × IsRow o cs r (slice_range bytes at n)
unfolding row_at
row_takes laws o [] bytes at r n fits h e =
    let z : at - at ≡ 0 = omega arith in
    subst (λ (x : Row × ℕ). (at ≤ x.1) × (x.1 ≤ length bytes) × IsRow o [] x.0 (slice_range bytes at x.1)) (ok_is {x = ([], at)} {y = (r, n)} e) (omega arith, h, rw z refl)
row_takes laws o (c ∷ cs) bytes at r n fits h e =
    let a = bind_ok (cell_in o c bytes at) (λ first. row_at o cs bytes first.1 >>= λ others. Ok (first.0 ∷ others.0, others.1)) (r, n) e in
    let x = a.0 in
    let b = bind_ok (row_at o cs bytes x.1) (λ others. Ok (x.0 ∷ others.0, others.1)) (r, n) a.2 in
    let l = lifted_ok at (cell_from o c.kind c.count (drop at bytes)) x a.1 in
    let t = laws.cell_is_spelled o c.kind c.count (drop at bytes) x.0 l.0 (IsBytes-drop at bytes fits) l.1 in
    let inside : x.1 ≤ length bytes = omega (arith, l.2, t.0, length-drop at bytes) in
    let k : x.1 - at ≡ l.0 = omega (arith, l.2) in
    let others = row_takes laws o cs bytes x.1 b.0.0 b.0.1 fits inside b.1 in
    let low : at ≤ x.1 = omega (arith, l.2) in
    let cell : IsCell o c.kind c.count x.0 (slice_range bytes at x.1) = rw k t.1 in
    subst (λ (y : Row × ℕ). (at ≤ y.1) × (y.1 ≤ length bytes) × IsRow o (c ∷ cs) y.0 (slice_range bytes at y.1)) (ok_is {x = (x.0 ∷ b.0.0, b.0.1)} {y = (r, n)} b.2)
    (omega (arith, others.0), others.1, (slice_range bytes at x.1, slice_range bytes x.1 b.0.1, range_parts bytes at x.1 b.0.1 low others.0, cell, others.2))

-- ---- rows

ended : (bytes : List ℕ) (at : ℕ) → drop at bytes ≡ [] → length bytes ≤ at
ended bytes at e = omega (arith, length-drop at bytes, ap length e)

pub rows_again : CellAndHeaderLaws → (m : ℕ) (o : Order) (cs : List Col) (rs : List Row) (bytes : List ℕ) (at : ℕ) (text : List ℕ) → HasRoom o cs → drop at bytes ≡ text → length rs ≤ m → IsRows o cs rs text → rows_at m o cs bytes at ≡ Ok rs
unfolding rows_at
rows_again laws zero o cs [] bytes at text room e le h = rw (le-leb _ _ (ended bytes at (e ∙ h))) refl
rows_again laws (suc m) o cs [] bytes at text room e le h = rw (le-leb _ _ (ended bytes at (e ∙ h))) refl
rows_again laws zero o cs (r ∷ rs) bytes at text room e le h = absurd (omega arith)
rows_again laws (suc m) o cs (r ∷ rs) bytes at text room e le h =
    let x = h.0 in
    let y = h.1 in
    let split : drop at bytes ≡ x ++ y = e ∙ h.2 in
    let some : 0 < length x = room r x h.3 in
    let more : at < length bytes = omega (arith, length-drop at bytes, ap length split, length-append x y) in
    let row = row_again laws o cs r bytes at x y split h.3 in
    let left : drop (at + length x) bytes ≡ y = sym (drop-drop (length x) at bytes) ∙ ap (drop (length x)) split ∙ drop_at x y (length x) refl in
    let others = rows_again laws m o cs rs bytes (at + length x) y room left (omega arith) h.4 in
    rw (lt-leb _ _ more, row, others) refl

pub rows_take : CellAndHeaderLaws → (m : ℕ) (o : Order) (cs : List Col) (bytes : List ℕ) (at : ℕ) (rs : List Row) → IsBytes bytes → at ≤ length bytes → rows_at m o cs bytes at ≡ Ok rs
    → (length rs ≤ m) × IsRows o cs rs (drop at bytes)
unfolding rows_at
rows_take laws zero o cs bytes at rs fits h e =
    elim (tested (leb (length bytes) at) (rows []) (Err (fault at (codes.LimitRows (most_rows + 1)))) (rows rs) e) [
      | inl t ↦ subst (λ (x : List Row). (length x ≤ 0) × IsRows o cs x (drop at bytes)) (ok_is {x = []} {y = rs} t.1) (omega arith, drop_all at bytes (leb-true _ _ t.0))
      | inr t ↦ absurd (let f = t.1 in cc)
    ]
rows_take laws (suc m) o cs bytes at rs fits h e =
    elim (tested (leb (length bytes) at) (rows []) (row_at o cs bytes at >>= λ r. rows_at m o cs bytes r.1 >>= λ others. Ok (r.0 ∷ others)) (rows rs) e) [
      | inl t ↦ subst (λ (x : List Row). (length x ≤ suc m) × IsRows o cs x (drop at bytes)) (ok_is {x = []} {y = rs} t.1) (omega arith, drop_all at bytes (leb-true _ _ t.0))
      | inr t ↦
          let a = bind_ok (row_at o cs bytes at) (λ r. rows_at m o cs bytes r.1 >>= λ others. Ok (r.0 ∷ others)) rs t.1 in
          let b = bind_ok (rows_at m o cs bytes a.0.1) (λ others. Ok (a.0.0 ∷ others)) rs a.2 in
          let row = row_takes laws o cs bytes at a.0.0 a.0.1 fits h a.1 in
          let others = rows_take laws m o cs bytes a.0.1 b.0 fits row.1 b.1 in
          let k : at + (a.0.1 - at) ≡ a.0.1 = omega (arith, row.0) in
          let split : drop at bytes ≡ slice_range bytes at a.0.1 ++ drop a.0.1 bytes = sym (take-append-drop (a.0.1 - at) (drop at bytes)) ∙ ap (λ (d : List ℕ). slice_range bytes at a.0.1 ++ d) (drop-drop (a.0.1 - at) at bytes ∙ ap (λ (n : ℕ). drop n bytes) k) in
          subst (λ (x : List Row). (length x ≤ suc m) × IsRows o cs x (drop at bytes)) (ok_is {x = (a.0.0 ∷ b.0)} {y = rs} b.2)
          (omega (arith, others.0), (slice_range bytes at a.0.1, drop a.0.1 bytes, split, row.2, others.1))
    ]
