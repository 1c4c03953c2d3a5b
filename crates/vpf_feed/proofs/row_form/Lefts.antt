-- What is left of a file, walked by the form of its rows, comes to what the grammar reads there.
use Rattle.std.proofs.Common.{[], ◌≡◌, ℕ, zero, suc, ◌+◌, Bool, true, false, cond, leb, List, ◌∷◌, length, drop, Result, Ok, Err, refl, sym, ap, ◌∙◌, arith}
use Rattle.std.proofs.lemmas.Bool.{lt-leb, le-leb, leb-true, leb-false}
use Rattle.std.proofs.lemmas.List.{drop-drop, length-drop}
use Rattle.vpf_base.specs.Limits.{most_rows}
use Rattle.vpf_base.specs.Results.{◌>>=◌}
use Rattle.vpf_base.proofs.Results.{done}
use Rattle.vpf_base.specs.declared.orders.Order.{Order}
use Rattle.vpf_triplet.specs.declared.kinds.Kind.{Kind}
use Rattle.vpf_triplet.specs.declared.kinds.Kind.TheVariants as kinds
use Rattle.vpf_triplet.specs.declared.places.Place.{Place}
use Rattle.vpf_triplet.specs.declared.places.Code.TheVariants as codes
use Rattle.vpf_triplet.specs.Places.{fault}
use Rattle.vpf_value.specs.Reading.{CellAnswer, cell_from}
use Rattle.vpf_head.specs.Head.{Col, is_data}
use Rattle.vpf_table.specs.Grid.{Row}
use Rattle.vpf_table.specs.Reading.{cell_in, row_at, rows_at}
use Rattle.vpf_table.specs.Walking.{end_of, counted}
use Rattle.vpf_table.specs.Inner.WalkLaws.{cell_passed, cell_refused, more_count}
use Rattle.vpf_feed.specs.Inner.RowForm.Form.{form_field, form_fields, extent}
use Rattle.vpf_feed.specs.Inner.RowForm.Walk.{passed, with_rest, row_left, rows_to_come}

is_null : (kind : Kind) → is_data kind ≡ false → kind ≡ kinds.X
is_null kinds.X e = refl
is_null kind e = absurd cc

null_size : (o : Order) (c : Col) (bytes : List ℕ) (at : ℕ) → is_data c.kind ≡ false → done at ≡ end_of (cell_in o c bytes at)
null_size o c bytes at e = let x = is_null c.kind e in let z : at ≡ at + 0 = omega arith in rw x (ap (λ (n : ℕ). Ok n) z)

pub row_is : (o : Order) (cs : List Col) (bytes : List ℕ) (at : ℕ) → row_left o (form_fields cs) at (drop at bytes) ≡ with_rest bytes (end_of (row_at o cs bytes at))
unfolding row_left row_at
row_is o [] bytes at = refl
row_is o (c ∷ cs) bytes at = by (λ n. row_is o cs bytes n) (is_data c.kind) refl
  where
    Others : Type 0
    Others = (n : ℕ) → row_left o (form_fields cs) n (drop n bytes) ≡ with_rest bytes (end_of (row_at o cs bytes n))

    cell : Others → (r : CellAnswer) → cell_from o c.kind c.count (drop at bytes) ≡ r → (passed at (drop at bytes) (extent r) >>= λ x. row_left o (form_fields cs) x.0 x.1) ≡ with_rest bytes (end_of (row_at o (c ∷ cs) bytes at))
    cell others (Ok x) q =
        let here : done (at + x.1) ≡ end_of (cell_in o c bytes at) = rw q refl in
        ap (λ (b : List ℕ). row_left o (form_fields cs) (at + x.1) b) (drop-drop x.1 at bytes) ∙ others (at + x.1) ∙ ap (with_rest bytes) (sym (cell_passed o c cs bytes at (at + x.1) here))
    cell others (Err code) q =
        let stop : Err (fault at code) ≡ end_of (cell_in o c bytes at) = rw q refl in
        ap (with_rest bytes) (sym (cell_refused o c cs bytes at (fault at code) stop))

    by : Others → (b : Bool) → is_data c.kind ≡ b → row_left o (cond b (form_field c ∷ form_fields cs) (form_fields cs)) at (drop at bytes) ≡ with_rest bytes (end_of (row_at o (c ∷ cs) bytes at))
    by others true q = cell others (cell_from o c.kind c.count (drop at bytes)) refl
    by others false q = others at ∙ ap (with_rest bytes) (sym (cell_passed o c cs bytes at at (null_size o c bytes at q)))

same_end : (bytes : List ℕ) (at : ℕ) → leb (length (drop at bytes)) 0 ≡ leb (length bytes) at
same_end bytes at = by (leb (length bytes) at) refl
  where
    by : (b : Bool) → leb (length bytes) at ≡ b → leb (length (drop at bytes)) 0 ≡ b
    by true q = le-leb _ _ (omega (arith, length-drop at bytes, leb-true _ _ q))
    by false q = lt-leb _ _ (omega (arith, length-drop at bytes, leb-false _ _ q))

if_done : (b : Bool) (n : ℕ) (p : Place) → counted n (cond b (Ok []) (Err p)) ≡ cond b (Ok n) (Err p)
if_done true n p = let z : n + 0 ≡ n = omega arith in ap (λ (k : ℕ). Ok k) z
if_done false n p = refl

pub rows_are : (n : ℕ) (o : Order) (cs : List Col) (bytes : List ℕ) (before at : ℕ) → rows_to_come n o (form_fields cs) before at (drop at bytes) ≡ counted before (rows_at n o cs bytes at)
unfolding rows_to_come rows_at
rows_are zero o cs bytes before at = rw (same_end bytes at) (sym (if_done (leb (length bytes) at) before (fault at (codes.LimitRows (most_rows + 1)))))
rows_are (suc n) o cs bytes before at = rw (same_end bytes at) (by (λ b k. rows_are n o cs bytes b k) (leb (length bytes) at))
  where
    Others : Type 0
    Others = (b k : ℕ) → rows_to_come n o (form_fields cs) b k (drop k bytes) ≡ counted b (rows_at n o cs bytes k)

    row : Others → (r : Result (Row × ℕ) Place) → (with_rest bytes (end_of r) >>= λ x. rows_to_come n o (form_fields cs) (before + 1) x.0 x.1) ≡ counted before (r >>= λ x. rows_at n o cs bytes x.1 >>= λ rs. Ok (x.0 ∷ rs))
    row others (Ok x) = others (before + 1) x.1 ∙ sym (more_count before x.0 (rows_at n o cs bytes x.1))
    row others (Err p) = refl

    by : Others → (b : Bool) → cond b (Ok before) (row_left o (form_fields cs) at (drop at bytes) >>= λ x. rows_to_come n o (form_fields cs) (before + 1) x.0 x.1) ≡ counted before (cond b (Ok []) (row_at o cs bytes at >>= λ x. rows_at n o cs bytes x.1 >>= λ rs. Ok (x.0 ∷ rs)))
    by others true = let z : before ≡ before + 0 = omega arith in ap (λ (k : ℕ). Ok k) z
    by others false = ap (λ (r : Result (ℕ × List ℕ) Place). r >>= λ x. rows_to_come n o (form_fields cs) (before + 1) x.0 x.1) (row_is o cs bytes at) ∙ row others (row_at o cs bytes at)
