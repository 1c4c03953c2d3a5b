-- Rows of one width stand at multiples of it.
use Rattle.std.proofs.Common.{[], ◌≡◌, ℕ, zero, suc, ◌+◌, ◌-◌, ◌*◌, ◌<◌, ◌≤◌, leb, List, ◌∷◌, length, drop, Option, Some, None, Result, Ok, Err, refl, sym, ap, subst, ◌∙◌, arith, inl, inr}
use Rattle.std.specs.Prelude.{slice_get, IsOk}
use Rattle.std.proofs.lemmas.Bool.{leb-false, cases_lt}
use Rattle.std.proofs.lemmas.List.{length-drop}
use Rattle.vpf_base.specs.Limits.{most_rows}
use Rattle.vpf_base.proofs.Booleans.{tested}
use Rattle.vpf_base.proofs.Results.{ok_is, bind_ok}
use Rattle.vpf_base.specs.Results.{◌>>=◌}
use Rattle.vpf_base.specs.declared.orders.Order.{Order}
use Rattle.vpf_triplet.specs.declared.places.Place.{Place}
use Rattle.vpf_triplet.specs.declared.places.Code.{Code}
use Rattle.vpf_triplet.specs.declared.places.Code.TheVariants as codes
use Rattle.vpf_triplet.specs.declared.places.Code.TheVariants.{CellCut}
use Rattle.vpf_triplet.specs.declared.kinds.Kind.{Kind}
use Rattle.vpf_triplet.specs.declared.kinds.Count.{Count}
use Rattle.vpf_triplet.specs.Places.{fault}
use Rattle.vpf_findings.specs.Values.{Value}
use Rattle.vpf_findings.specs.Reading.{cell_from}
use Rattle.vpf_findings.specs.Widths.{cell_width, TakesWidth}
use Rattle.vpf_head.specs.Head.{Col}
use Rattle.vpf_table.specs.Grid.{Row}
use Rattle.vpf_table.specs.Reading.{lifted, cell_in, row_at, rows_at}
use Rattle.vpf_table.specs.Walking.{rows_of, end_of, counted}
use Rattle.vpf_table.specs.Inner.Widths.{add_width, width_of}
use Rattle.vpf_table.proofs.WalkLemmas.{row_passed}
use Rattle.vpf_table.specs.Inner.WalkLaws.{cell_passed}
use Rattle.vpf_table.proofs.Parts.{lifted_ok, rows}
use Rattle.vpf_table.proofs.CellOf.{opens}
use Rattle.vpf_table.specs.Inner.WidthLaws.{added, add_by}
use Rattle.vpf_base.proofs.Options.{some_is}

abbrev found : Value × ℕ → Result (Value × ℕ) Code
found x = Ok x

found_is : (x y : Value × ℕ) → found x ≡ found y → x ≡ y
found_is x y e = cc

same_len : (u v : Value) (m n : ℕ) → found (u, m) ≡ found (v, n) → m ≡ n
same_len u v m n e = ap (λ (x : Value × ℕ). x.1) (found_is (u, m) (v, n) e)

-- cells of one width end there, or are cut where fewer bytes are left
abbrev pub FixedCells : Type 0
FixedCells = (o : Order) (k : Kind) (c : Count) (bytes : List ℕ) (w : ℕ) → cell_width k c ≡ Some w → TakesWidth w bytes (cell_from o k c bytes)

-- a cell of one width that is read lies in the bytes, and takes that many
cell_len : FixedCells → (o : Order) (k : Kind) (c : Count) (bytes : List ℕ) (v : Value) (n w : ℕ) → cell_width k c ≡ Some w → cell_from o k c bytes ≡ Ok (v, n) → (n ≡ w) × (w ≤ length bytes)
cell_len cells o k c bytes v n w f e =
    elim (cases_lt (length bytes) w) [
      | inl lt ↦ absurd (let z = (cells o k c bytes w f).cut lt in cc)
      | inr le ↦ let z = (cells o k c bytes w f).whole le in (sym (same_len z.0 v w n (sym z.1 ∙ e)), le)
    ]

-- a cell of one width that is read ends behind so many bytes
pub cell_ends : FixedCells → (o : Order) (c : Col) (bytes : List ℕ) (at next w : ℕ) (v : Value) → cell_width c.kind c.count ≡ Some w → at ≤ length bytes → cell_in o c bytes at ≡ Ok (v, next) → (next ≡ at + w) × (next ≤ length bytes)
cell_ends cells o c bytes at next w v f inside e =
    let l = lifted_ok at (cell_from o c.kind c.count (drop at bytes)) (v, next) e in
    let len = cell_len cells o c.kind c.count (drop at bytes) v l.0 w f l.1 in
    (omega (arith, l.2, len.0), omega (arith, l.2, len.0, len.1, length-drop at bytes, inside))

whole_by : (at w : ℕ) (v : Value) (r : Result (Value × ℕ) Code) → r ≡ Ok (v, w) → end_of (lifted at r) ≡ Ok (at + w)
whole_by at w v r e = rw e refl

cell_whole : FixedCells → (o : Order) (c : Col) (bytes : List ℕ) (at w : ℕ) → cell_width c.kind c.count ≡ Some w → at + w ≤ length bytes → end_of (cell_in o c bytes at) ≡ Ok (at + w)
cell_whole cells o c bytes at w f le =
    let z = (cells o c.kind c.count (drop at bytes) w f).whole (omega (arith, length-drop at bytes)) in
    whole_by at w z.0 (cell_from o c.kind c.count (drop at bytes)) z.1

cut_fails : (at : ℕ) (r : Result (Value × ℕ) Code) (code : Code) → r ≡ Err code → IsOk (lifted at r) → ⊥
cut_fails at (Ok x) code e ok = cc
cut_fails at (Err q) code e ok = cc

-- a cell of one width that is known to be read ends there
pub cell_past : FixedCells → (o : Order) (c : Col) (bytes : List ℕ) (at w : ℕ) → cell_width c.kind c.count ≡ Some w → at ≤ length bytes → IsOk (cell_in o c bytes at) → (end_of (cell_in o c bytes at) ≡ Ok (at + w)) × (at + w ≤ length bytes)
cell_past cells o c bytes at w f inside ok =
    let rest = drop at bytes in
    elim (cases_lt (length rest) w) [
      | inl lt ↦ absurd (cut_fails at (cell_from o c.kind c.count rest) CellCut ((cells o c.kind c.count rest w f).cut lt) ok)
      | inr le ↦ let z = (cells o c.kind c.count rest w f).whole le in (whole_by at w z.0 (cell_from o c.kind c.count rest) z.1, omega (arith, le, length-drop at bytes, inside))
    ]

pub row_len : FixedCells → (o : Order) (cs : List Col) (bytes : List ℕ) (at : ℕ) (r : Row) (n w : ℕ) → width_of cs ≡ Some w → row_at o cs bytes at ≡ Ok (r, n) → n ≡ at + w
unfolding row_at
row_len cells o [] bytes at r n w f e = omega (arith, some_is 0 w f, ap (λ (x : Row × ℕ). x.1) (ok_is {x = ([], at)} {y = (r, n)} e))
row_len cells o (c ∷ cs) bytes at r n w f e =
    let a = added (cell_width c.kind c.count) (width_of cs) w f in
    let s = opens o c cs bytes at r n e in
    let l = lifted_ok at (cell_from o c.kind c.count (drop at bytes)) (s.value, s.next) s.cell in
    let first = cell_len cells o c.kind c.count (drop at bytes) s.value l.0 a.0 a.2 l.1 in
    let others = row_len cells o cs bytes s.next s.others n a.1 a.3 s.rest in
    omega (arith, first.0, others, l.2, a.4)

-- row k, counted from 0
pub record Stands (o : Order) (cs : List Col) (bytes : List ℕ) (at : ℕ) (rs : List Row) (k : ℕ) : Type 0 where
  pub row : Row
  pub past : ℕ
  pub item : slice_get rs k ≡ Some row
  pub read : row_at o cs bytes at ≡ Ok (row, past)
  pub inside : at < length bytes

stands_by : (m : ℕ) (o : Order) (cs : List Col) (bytes : List ℕ) (at w : ℕ) (r : Row) (rs : List Row) (k past : ℕ) → k < length (r ∷ rs) → at < length bytes → row_at o cs bytes at ≡ Ok (r, past) → past ≡ at + w
    → ((j : ℕ) → j < length rs → Stands o cs bytes (at + w + j * w) rs j) → Stands o cs bytes (at + k * w) (r ∷ rs) k
stands_by m o cs bytes at w r rs zero past h more e next others =
    let z : at + 0 * w ≡ at = omega arith in
    subst (λ (n : ℕ). Stands o cs bytes n (r ∷ rs) 0) (sym z) (record { row = r; past = past; item = refl; read = e; inside = more })
stands_by m o cs bytes at w r rs (suc k) past h more e next others =
    let s = others k (omega arith) in
    let z : at + suc k * w ≡ at + w + k * w = omega arith in
    subst (λ (n : ℕ). Stands o cs bytes n (r ∷ rs) (suc k)) (sym z) (record { row = s.row; past = s.past; item = s.item; read = s.read; inside = s.inside })

pub row_stands : FixedCells → (m : ℕ) (o : Order) (cs : List Col) (bytes : List ℕ) (at : ℕ) (rs : List Row) (w k : ℕ) → width_of cs ≡ Some w → rows_at m o cs bytes at ≡ Ok rs → k < length rs → Stands o cs bytes (at + k * w) rs k
unfolding rows_at
row_stands cells zero o cs bytes at rs w k f e h =
    elim (tested (leb (length bytes) at) (rows []) (Err (fault at (codes.LimitRows (most_rows + 1)))) (rows rs) e) [
      | inl t ↦ absurd (let z = ok_is {x = []} {y = rs} t.1 in omega (arith, ap length z))
      | inr t ↦ absurd (let f = t.1 in cc)
    ]
row_stands cells (suc m) o cs bytes at rs w k f e h =
    elim (tested (leb (length bytes) at) (rows []) (row_at o cs bytes at >>= λ r. rows_at m o cs bytes r.1 >>= λ others. Ok (r.0 ∷ others)) (rows rs) e) [
      | inl t ↦ absurd (let z = ok_is {x = []} {y = rs} t.1 in omega (arith, ap length z))
      | inr t ↦
          let a = bind_ok (row_at o cs bytes at) (λ r. rows_at m o cs bytes r.1 >>= λ others. Ok (r.0 ∷ others)) rs t.1 in
          let b = bind_ok (rows_at m o cs bytes a.0.1) (λ others. Ok (a.0.0 ∷ others)) rs a.2 in
          let is : a.0.0 ∷ b.0 ≡ rs = ok_is {x = (a.0.0 ∷ b.0)} {y = rs} b.2 in
          let next : a.0.1 ≡ at + w = row_len cells o cs bytes at a.0.0 a.0.1 w f a.1 in
          let more : at < length bytes = leb-false _ _ t.0 in
          subst (λ (x : List Row). Stands o cs bytes (at + k * w) x k) is
          (stands_by m o cs bytes at w a.0.0 b.0 k a.0.1 (subst (λ (x : List Row). k < length x) (sym is) h) more a.1 next (λ j lt. row_stands cells m o cs bytes (at + w) b.0 w j f (subst (λ (n : ℕ). rows_at m o cs bytes n ≡ Ok b.0) next b.1) lt))
    ]

pub rows_read : (r : Result (List Row) Place) → IsOk r → r ≡ Ok (rows_of r)
rows_read (Ok rs) h = refl
rows_read (Err p) h = absurd cc

pub add_step : (sum x : ℕ) (total : Option ℕ) (c : Col) (cs : List Col) → cell_width c.kind c.count ≡ Some x → add_width (Some sum) (width_of (c ∷ cs)) ≡ total → add_width (Some (sum + x)) (width_of cs) ≡ total
add_step sum x total c cs e h = add_by sum x (width_of cs) ∙ (rw (← e) h)

-- columns with one that varies have no one width
pub no_width : (sum w : ℕ) (total : Option ℕ) (c : Col) (cs : List Col) → cell_width c.kind c.count ≡ None → add_width (Some sum) (width_of (c ∷ cs)) ≡ total → total ≡ Some w → ⊥
no_width sum w total c cs e h k = let f : None ≡ Some w = sym (ap (λ (x : Option ℕ). add_width (Some sum) (add_width x (width_of cs))) e) ∙ h ∙ k in cc

-- the width of all columns is at least that of some
pub wider : (sum w most : ℕ) (rest : Option ℕ) → add_width (Some sum) rest ≡ Some w → (sum < most → ⊥) → w < most → ⊥
wider sum w most None e l h = cc
wider sum w most (Some x) e l h = let f = some_is (sum + x) w e in l (omega (arith, f, h))

-- where there are bytes enough, a row of this width is whole
pub row_whole : FixedCells → (o : Order) (cs : List Col) (bytes : List ℕ) (at w : ℕ) → width_of cs ≡ Some w → at + w ≤ length bytes → end_of (row_at o cs bytes at) ≡ Ok (at + w)
unfolding row_at
row_whole cells o [] bytes at w f le = let z : w ≡ 0 = sym (some_is 0 w f) in ap (λ (n : ℕ). Ok n) (omega (arith, z))
row_whole cells o (c ∷ cs) bytes at w f le =
    let a = added (cell_width c.kind c.count) (width_of cs) w f in
    let first = cell_whole cells o c bytes at a.0 a.2 (omega (arith, a.4)) in
    cell_passed o c cs bytes at (at + a.0) (sym first) ∙ row_whole cells o cs bytes (at + a.0) a.1 a.3 (omega (arith, a.4)) ∙ ap (λ (n : ℕ). Ok n) (omega (arith, a.4))

-- so many whole rows are passed
pub rows_whole : FixedCells → (k m before : ℕ) (o : Order) (cs : List Col) (bytes : List ℕ) (at w : ℕ) → width_of cs ≡ Some w → 0 < w → k ≤ m → at + k * w ≤ length bytes
    → counted before (rows_at m o cs bytes at) ≡ counted (before + k) (rows_at (m - k) o cs bytes (at + k * w))
rows_whole cells zero m before o cs bytes at w f some le inside =
    let b : before ≡ before + 0 = omega arith in
    let n : m ≡ m - 0 = omega arith in
    let a : at ≡ at + 0 * w = omega arith in
    ap (λ (x : ℕ). counted x (rows_at m o cs bytes at)) b ∙ ap (λ (x : ℕ). counted (before + 0) (rows_at x o cs bytes at)) n ∙ ap (λ (x : ℕ). counted (before + 0) (rows_at (m - 0) o cs bytes x)) a
rows_whole cells (suc k) m before o cs bytes at w f some le inside =
    let more : suc k * w ≡ w + k * w = omega arith in
    let row = row_whole cells o cs bytes at w f (omega (arith, more)) in
    let first = row_passed m before o cs bytes at (at + w) (λ z. omega arith) (omega (arith, more)) (sym row) in
    let others = rows_whole cells k (m - 1) (before + 1) o cs bytes (at + w) w f some (omega arith) (omega (arith, more)) in
    let b : before + 1 + k ≡ before + suc k = omega arith in
    let n : m - 1 - k ≡ m - suc k = omega arith in
    let a : at + w + k * w ≡ at + suc k * w = omega (arith, more) in
    first ∙ others ∙ ap (λ (x : ℕ). counted x (rows_at (m - 1 - k) o cs bytes (at + w + k * w))) b ∙ ap (λ (x : ℕ). counted (before + suc k) (rows_at x o cs bytes (at + w + k * w))) n ∙ ap (λ (x : ℕ). counted (before + suc k) (rows_at (m - suc k) o cs bytes x)) a

ends_by : FixedCells → (o : Order) (cs : List Col) (bytes : List ℕ) (at n w : ℕ) (r : Result (Row × ℕ) Place) → width_of cs ≡ Some w → row_at o cs bytes at ≡ r → (let e : Result ℕ Place = Ok n in e) ≡ end_of r → n ≡ at + w
ends_by cells o cs bytes at n w (Ok x) f e h = ok_is {x = n} {y = x.1} h ∙ row_len cells o cs bytes at x.0 x.1 w f e
ends_by cells o cs bytes at n w (Err p) f e h = absurd cc

-- where a row of this width ends
pub row_ends : FixedCells → (o : Order) (cs : List Col) (bytes : List ℕ) (at n w : ℕ) → width_of cs ≡ Some w → (let e : Result ℕ Place = Ok n in e) ≡ end_of (row_at o cs bytes at) → n ≡ at + w
row_ends cells o cs bytes at n w f h = ends_by cells o cs bytes at n w (row_at o cs bytes at) f refl h

-- a row of this width that is read lies in the bytes
pub row_fits : FixedCells → (o : Order) (cs : List Col) (bytes : List ℕ) (at : ℕ) (r : Row) (n w : ℕ) → at ≤ length bytes → width_of cs ≡ Some w → row_at o cs bytes at ≡ Ok (r, n) → at + w ≤ length bytes
unfolding row_at
row_fits cells o [] bytes at r n w inside f e = omega (arith, some_is 0 w f)
row_fits cells o (c ∷ cs) bytes at r n w inside f e =
    let a = added (cell_width c.kind c.count) (width_of cs) w f in
    let s = opens o c cs bytes at r n e in
    let l = lifted_ok at (cell_from o c.kind c.count (drop at bytes)) (s.value, s.next) s.cell in
    let len = cell_len cells o c.kind c.count (drop at bytes) s.value l.0 a.0 a.2 l.1 in
    let first : s.next ≤ length bytes = omega (arith, l.2, len.0, len.1, length-drop at bytes, inside) in
    let others = row_fits cells o cs bytes s.next s.others n a.1 first a.3 s.rest in
    omega (arith, others, len.0, l.2, a.4)
