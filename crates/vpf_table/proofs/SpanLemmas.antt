-- Where rows lie, as a walk over them finds it.
use Rattle.std.proofs.Common.{◌≡◌, ℕ, zero, suc, ◌+◌, ◌-◌, ◌<◌, ◌≤◌, Bool, true, false, cond, List, [], ◌∷◌, length, drop, Option, Some, None, Result, Ok, Err, refl, sym, ap, subst, ◌∙◌, arith, nat_eq}
use Rattle.std.specs.Prelude.{IsOk, slice_get, ◌&&◌}
use Rattle.std.proofs.lemmas.Bool.{eqb-true, eq-eqb}
use Rattle.vpf_base.proofs.Results.{ok_is, done}
use Rattle.vpf_base.proofs.Lists.{next_item}
use Rattle.vpf_base.specs.declared.orders.Order.{Order}
use Rattle.vpf_triplet.specs.declared.places.Place.{Place}
use Rattle.vpf_findings.specs.Reading.{cell_from}
use Rattle.vpf_head.specs.Head.{Col}
use Rattle.vpf_table.specs.Grid.{Row}
use Rattle.vpf_table.specs.Reading.{row_at, rows_at}
use Rattle.vpf_table.specs.Walking.{row_of, past_of, end_of, rows_of}
use Rattle.vpf_table.specs.Opening.{spans_at, first_other}
use Rattle.vpf_table.proofs.CellOf.{opens}
use Rattle.vpf_table.proofs.Parts.{lifted_ok}
use Rattle.vpf_table.proofs.RowsOpen.{rows_open}
use Rattle.vpf_table.proofs.RowSteps.{begins}

-- a row ends no earlier than it begins
pub row_after : (o : Order) (cs : List Col) (bytes : List ℕ) (at : ℕ) (r : Row) (n : ℕ) → row_at o cs bytes at ≡ Ok (r, n) → at ≤ n
unfolding row_at
row_after o [] bytes at r n e = omega (arith, ap (λ (x : Row × ℕ). x.1) (ok_is {x = ([], at)} {y = (r, n)} e))
row_after o (c ∷ cs) bytes at r n e =
    let s = opens o c cs bytes at r n e in
    let l = lifted_ok at (cell_from o c.kind c.count (drop at bytes)) (s.value, s.next) s.cell in
    let others = row_after o cs bytes s.next s.others n s.rest in
    omega (arith, others, l.2)

after_by : (o : Order) (cs : List Col) (bytes : List ℕ) (at n : ℕ) (r : Result (Row × ℕ) Place) → row_at o cs bytes at ≡ r → done n ≡ end_of r → at ≤ n
after_by o cs bytes at n (Ok x) e h = let k : n ≡ x.1 = cc in let l = row_after o cs bytes at x.0 x.1 e in omega arith
after_by o cs bytes at n (Err p) e h = absurd cc

pub end_after : (o : Order) (cs : List Col) (bytes : List ℕ) (at n : ℕ) → done n ≡ end_of (row_at o cs bytes at) → at ≤ n
end_after o cs bytes at n h = after_by o cs bytes at n (row_at o cs bytes at) refl h

-- ---- offsets and lengths

pub length-spans : (n : ℕ) (o : Order) (cs : List Col) (bytes : List ℕ) (at : ℕ) → length (spans_at n o cs bytes at) ≡ n
unfolding spans_at
length-spans zero o cs bytes at = refl
length-spans (suc n) o cs bytes at = ap suc (length-spans n o cs bytes (past_of (row_at o cs bytes at)))

-- row i, and where its span says that it begins
pub record SpanRow (o : Order) (cs : List Col) (bytes : List ℕ) (rs : List Row) (ss : List (ℕ × ℕ)) (i : ℕ) : Type 0 where
  pub place : ℕ
  pub len : ℕ
  pub got : slice_get ss i ≡ Some (place, len)
  pub inside : place ≤ length bytes
  pub row : IsOk (row_at o cs bytes place)
  pub item : slice_get rs i ≡ Some (row_of (row_at o cs bytes place))

item_zero : (all rs : List Row) (r : Row) → all ≡ r ∷ rs → slice_get all 0 ≡ Some r
item_zero all rs r e = rw e refl

item_suc : (all rs : List Row) (r : Row) (i : ℕ) (x : Option Row) → all ≡ r ∷ rs → slice_get rs i ≡ x → slice_get all (suc i) ≡ x
item_suc all rs r i x e h = rw e h

pub span_row : (n m : ℕ) (o : Order) (cs : List Col) (bytes : List ℕ) (at i : ℕ) → IsOk (rows_at m o cs bytes at) → length (rows_of (rows_at m o cs bytes at)) ≡ n → i < n
    → SpanRow o cs bytes (rows_of (rows_at m o cs bytes at)) (spans_at n o cs bytes at) i
unfolding spans_at
span_row zero m o cs bytes at i ok e h = absurd (omega arith)
span_row (suc n) m o cs bytes at zero ok e h =
    let b = begins m o cs bytes at (omega (arith, e)) in
    let p = rows_open m o cs bytes at ok b in
    record { place = at; len = past_of (row_at o cs bytes at) - at; got = refl; inside = omega (arith, b); row = p.row; item = item_zero _ _ _ p.is }
span_row (suc n) m o cs bytes at (suc i) ok e h =
    let b = begins m o cs bytes at (omega (arith, e)) in
    let p = rows_open m o cs bytes at ok b in
    let s = span_row n (m - 1) o cs bytes (past_of (row_at o cs bytes at)) i p.rest (omega (arith, e, ap length p.is)) (omega arith) in
    record { place = s.place; len = s.len; got = s.got; inside = s.inside; row = s.row; item = item_suc _ _ _ _ _ p.is s.item }

-- an entry of an index of these spans
pub by_span : (o : Order) (cs : List Col) (bytes : List ℕ) (rs : List Row) (ss entries : List (ℕ × ℕ)) (k j : ℕ) (x : ℕ × ℕ) → SpanRow o cs bytes rs ss k → entries ≡ ss → j ≡ k → slice_get entries j ≡ Some x
    → (x.0 ≤ length bytes) × IsOk (row_at o cs bytes x.0) × (slice_get rs k ≡ Some (row_of (row_at o cs bytes x.0)))
by_span o cs bytes rs ss entries k j x s e h g =
    let got : Some (s.place, s.len) ≡ Some x = sym s.got ∙ rw (e, h) at g in
    let is : (s.place, s.len) ≡ x = cc in
    subst (λ (y : ℕ × ℕ). (y.0 ≤ length bytes) × IsOk (row_at o cs bytes y.0) × (slice_get rs k ≡ Some (row_of (row_at o cs bytes y.0)))) is (s.inside, s.row, s.item)

pub spans_next : (n n2 : ℕ) (o : Order) (cs : List Col) (bytes : List ℕ) (at past : ℕ) → n ≡ suc n2 → past ≡ past_of (row_at o cs bytes at) → spans_at n o cs bytes at ≡ (at, past - at) ∷ spans_at n2 o cs bytes past
unfolding spans_at
spans_next n n2 o cs bytes at past e h = rw (e, h) refl

-- ---- the first entry that is another

pub other_here : (k : ℕ) (es es2 ss ss2 : List (ℕ × ℕ)) (e s : ℕ × ℕ) (o : Option ℕ) → es ≡ e ∷ es2 → ss ≡ s ∷ ss2 → (nat_eq e.0 s.0 && nat_eq e.1 s.1) ≡ false → first_other k es ss ≡ o → o ≡ Some k
unfolding first_other
other_here k es es2 ss ss2 e s o a b n h = sym h ∙ rw (a, b, n) refl

pub other_later : (k : ℕ) (es es2 ss ss2 : List (ℕ × ℕ)) (e s : ℕ × ℕ) (o : Option ℕ) → es ≡ e ∷ es2 → ss ≡ s ∷ ss2 → (nat_eq e.0 s.0 && nat_eq e.1 s.1) ≡ true → first_other k es ss ≡ o → first_other (k + 1) es2 ss2 ≡ o
unfolding first_other
other_later k es es2 ss ss2 e s o a b n h = sym (rw (a, b, n) refl) ∙ h

pub other_none : (k : ℕ) (es ss : List (ℕ × ℕ)) (o : Option ℕ) → es ≡ [] → first_other k es ss ≡ o → o ≡ None
unfolding first_other
other_none k es ss o a h = sym h ∙ rw a refl

pub next_entry : (entries : List (ℕ × ℕ)) (k j : ℕ) (x : ℕ × ℕ) → j ≡ k → slice_get entries j ≡ Some x → drop k entries ≡ x ∷ drop (k + 1) entries
next_entry entries k j x e h = next_item entries k x (rw e at h)

pub other_self : (i : ℕ) (ss : List (ℕ × ℕ)) → first_other i ss ss ≡ None
unfolding first_other
other_self i [] = refl
other_self i (s ∷ ss) = rw (eq-eqb s.0 s.0 refl, eq-eqb s.1 s.1 refl) (other_self (i + 1) ss)

pair_is : (x y : ℕ × ℕ) → x.0 ≡ y.0 → x.1 ≡ y.1 → x ≡ y
pair_is x y e f = rw (e, f) refl

both_by : (a b c d : ℕ) (r : Option ℕ) (i : ℕ) (p q : Bool) → nat_eq a b ≡ p → nat_eq c d ≡ q → cond (p && q) r (Some i) ≡ None → (a ≡ b) × (c ≡ d) × (r ≡ None)
both_by a b c d r i true true e f h = (eqb-true a b e, eqb-true c d f, h)
both_by a b c d r i true false e f h = absurd cc
both_by a b c d r i false q e f h = absurd cc

both_step : (a b c d : ℕ) (r : Option ℕ) (i : ℕ) → cond (nat_eq a b && nat_eq c d) r (Some i) ≡ None → (a ≡ b) × (c ≡ d) × (r ≡ None)
both_step a b c d r i e = both_by a b c d r i (nat_eq a b) (nat_eq c d) refl refl e

-- entries of which none is another are these
pub same_spans : (i : ℕ) (es ss : List (ℕ × ℕ)) → length es ≡ length ss → first_other i es ss ≡ None → es ≡ ss
unfolding first_other
same_spans i [] [] l e = refl
same_spans i [] (s ∷ ss) l e = absurd (omega arith)
same_spans i (x ∷ es) [] l e = absurd (omega arith)
same_spans i (x ∷ es) (s ∷ ss) l e =
    let b = both_step x.0 s.0 x.1 s.1 (first_other (i + 1) es ss) i e in
    let t = same_spans (i + 1) es ss (omega arith) b.2 in
    rw t (ap (λ (y : ℕ × ℕ). y ∷ ss) (pair_is x s b.0 b.1))
