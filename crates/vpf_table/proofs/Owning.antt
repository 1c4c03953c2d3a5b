-- An index is the table's own, or has its first fault.
use Rattle.std.proofs.Common.{◌≡◌, ℕ, ◌+◌, ◌*◌, Bool, true, false, cond, List, length, Option, Some, None, Result, Ok, Err, refl, ap}
use Rattle.std.specs.Prelude.{◌==◌}
use Rattle.std.proofs.lemmas.Bool.{eqb-true, eq-eqb, ne_eqb}
use Rattle.vpf_base.specs.Results.{◌>>=◌}
use Rattle.vpf_base.specs.declared.orders.Order.{Order}
use Rattle.vpf_triplet.specs.declared.places.Place.{Place}
use Rattle.vpf_triplet.specs.declared.places.Code.TheVariants as codes
use Rattle.vpf_triplet.specs.Places.{index_fault, Gives}
use Rattle.vpf_head.specs.Reading.{header_of}
use Rattle.vpf_varindex.specs.Reading.{index_at}
use Rattle.vpf_table.specs.Grid.{Grid}
use Rattle.vpf_table.specs.Reading.{table_of}
use Rattle.vpf_table.specs.Opening.{spans_at, row_spans, first_other, unless_other, owned, own_entries, opened_of}
use Rattle.vpf_table.proofs.SpanLemmas.{same_spans, other_self}

abbrev found : Option (List (ℕ × ℕ)) → Result (Option (List (ℕ × ℕ))) Place
found x = Ok x

-- ---- as an index is checked

pub count_differs : (o : Order) (index : List ℕ) (es ss : List (ℕ × ℕ)) → index_at o index ≡ Ok es → (length es ≡ length ss → ⊥) → own_entries o ss (Some index) ≡ Err (index_fault 0 codes.IndexCount)
count_differs o index es ss e h = rw (e, ne_eqb _ _ h) refl

abbrev checked : Option ℕ → Result (Unit {0}) Place
checked r = unless_other tt r

failed_by : {X : Type 0} (x : X) (r : Option ℕ) (p : Place) → Err p ≡ checked r → unless_other x r ≡ Err p
failed_by x None p e = absurd cc
failed_by x (Some i) p e = let k : p ≡ index_fault (8 + 8 * i) codes.IndexRow = cc in rw k refl

abbrev fine : Result (Unit {0}) Place
fine = Ok tt

pub none_other : (r : Option ℕ) → fine ≡ checked r → r ≡ None
none_other None e = refl
none_other (Some i) e = absurd cc

pub entry_differs : (o : Order) (index : List ℕ) (es ss : List (ℕ × ℕ)) (p : Place) → index_at o index ≡ Ok es → length es ≡ length ss → Err p ≡ checked (first_other 0 es ss) → own_entries o ss (Some index) ≡ Err p
entry_differs o index es ss p e l h = rw (e, eq-eqb _ _ l) (failed_by (Some es) (first_other 0 es ss) p h)

pub is_own : (o : Order) (index : List ℕ) (es ss : List (ℕ × ℕ)) → index_at o index ≡ Ok es → length es ≡ length ss → fine ≡ checked (first_other 0 es ss) → own_entries o ss (Some index) ≡ Ok (Some es)
is_own o index es ss e l h = rw (e, eq-eqb _ _ l, none_other (first_other 0 es ss) h) refl

-- what is told of these offsets and lengths is told of the same
pub told_by : (r : Result (Unit {0}) Place) (es spans ss : List (ℕ × ℕ)) (o : Option ℕ) → ss ≡ spans → first_other 0 es spans ≡ o → r ≡ checked o → r ≡ checked (first_other 0 es ss)
told_by r es spans ss o e f h = rw (e, f) h

-- ---- as a table is opened with it

err_by : {X Y : Type 0} (x : X) (y : Y) (b : Bool) (r : Option ℕ) (q p : Place) → cond b (unless_other x r) (Err q) ≡ Err p → cond b (unless_other y r) (Err q) ≡ Err p
err_by x y true None q p e = absurd cc
err_by x y true (Some i) q p e = let k : index_fault (8 + 8 * i) codes.IndexRow ≡ p = cc in ap (λ (z : Place). Err z) k
err_by x y false r q p e = let k : q ≡ p = cc in ap (λ (z : Place). Err z) k

ok_by : {X Y : Type 0} (x z : X) (y : Y) (b : Bool) (r : Option ℕ) (q : Place) → cond b (unless_other x r) (Err q) ≡ Ok z → (b ≡ true) × (r ≡ None) × (x ≡ z) × (cond b (unless_other y r) (Err q) ≡ Ok y)
ok_by x z y true None q e = (refl, refl, cc, refl)
ok_by x z y true (Some i) q e = absurd cc
ok_by x z y false r q e = absurd cc

abbrev own_of : Result (List (ℕ × ℕ)) Place → List (ℕ × ℕ) → Result (Option (List (ℕ × ℕ))) Place
own_of r ss = r >>= λ es. owned (Some es) es ss

abbrev grid_of : Grid → Result (List (ℕ × ℕ)) Place → List (ℕ × ℕ) → Result Grid Place
grid_of g r ss = r >>= λ es. owned g es ss

fails_by : (g : Grid) (r : Result (List (ℕ × ℕ)) Place) (ss : List (ℕ × ℕ)) (p : Place) → own_of r ss ≡ Err p → grid_of g r ss ≡ Err p
fails_by g (Ok es) ss p e = err_by (Some es) g (length es == length ss) (first_other 0 es ss) (index_fault 0 codes.IndexCount) p e
fails_by g (Err q) ss p e = let k : q ≡ p = cc in ap (λ (z : Place). Err z) k

opens_by : (g : Grid) (r : Result (List (ℕ × ℕ)) Place) (ss : List (ℕ × ℕ)) (x : Option (List (ℕ × ℕ))) → own_of r ss ≡ Ok x → grid_of g r ss ≡ Ok g
opens_by g (Ok es) ss x e = (ok_by (Some es) x g (length es == length ss) (first_other 0 es ss) (index_fault 0 codes.IndexCount) e).3
opens_by g (Err q) ss x e = absurd cc

-- the entries of a table's own index
pub owned_is : (g h : Grid) (es ss : List (ℕ × ℕ)) → owned g es ss ≡ Ok h → (g ≡ h) × (es ≡ ss)
owned_is g h es ss e =
    let k = ok_by g h g (length es == length ss) (first_other 0 es ss) (index_fault 0 codes.IndexCount) e in
    (k.2, same_spans 0 es ss (eqb-true _ _ k.0) k.1)

pub owned_self : (g : Grid) (ss : List (ℕ × ℕ)) → owned g ss ss ≡ Ok g
owned_self g ss = rw (eq-eqb (length ss) (length ss) refl, other_self 0 ss) refl

pub spans_are : (bytes : List ℕ) (g : Grid) (start : ℕ) → header_of bytes ≡ Ok (g.head, start) → row_spans bytes g ≡ spans_at (length g.rows) g.head.order g.head.columns bytes start
spans_are bytes g start e = rw e refl

-- a table that was read is opened with an index where these are its own entries, and refused where the index is
pub given_own : (bytes : List ℕ) (g : Grid) (index : List ℕ) (r : Result (List (ℕ × ℕ)) Place) → table_of bytes ≡ Ok g
    → Gives (λ (es : List (ℕ × ℕ)). Some es) r (own_entries g.head.order (row_spans bytes g) (Some index)) → Gives (λ (es : List (ℕ × ℕ)). g) r (opened_of bytes (Some index))
given_own bytes g index (Ok es) t h = rw t (opens_by g (index_at g.head.order index) (row_spans bytes g) (Some es) h)
given_own bytes g index (Err p) t h = rw t (fails_by g (index_at g.head.order index) (row_spans bytes g) p h)
