-- What is written of a table is its canonical bytes, or they pass a limit.
use Rattle.std.specs.Prelude.{[], min}
use Rattle.std.proofs.Common.{◌≡◌, ℕ, suc, ◌+◌, ◌-◌, ◌^◌, ◌≤◌, Bool, true, false, cond, List, ◌∷◌, ◌++◌, length, Option, Some, None, refl, sym, ap, subst, ◌∙◌, arith, inl, inr}
use Rattle.std.proofs.lemmas.List.{length-append}
use Rattle.vpf_base.proofs.NumberLemmas.{length-number}
use Rattle.vpf_base.specs.Limits.{most_bytes}
use Rattle.vpf_base.specs.declared.orders.Order.{Order}
use Rattle.vpf_head.specs.Canonical.{canonical_text, canonical_header}
use Rattle.std.specs.Int.{w32}
use Rattle.vpf_base.specs.Numbers.{number}
use Rattle.vpf_head.specs.Head.{Head, Col, varies_in}
use Rattle.vpf_varindex.specs.RowIndex.{row_index}
use Rattle.vpf_triplet.specs.declared.places.Part.{Part}
use Rattle.vpf_table.specs.declared.limit.Limit.{Limit}
use Rattle.vpf_table.specs.Grid.{Row, Grid}
use Rattle.vpf_table.specs.Canonical.{row_text, rows_text, spans_from, canonical_table, canonical_index}
use Rattle.vpf_write.specs.Inner.Drafts.{Progress, begun, with_rows}
use Rattle.vpf_write.specs.Writing.{limit_by, first_limit, Estimates}
use Rattle.vpf_write.proofs.RowTexts.{after_rows, with_rows-after}
use Rattle.vpf_write.proofs.WriteLimits.{limit-told, limit-within}
use Rattle.vpf_write.specs.Inner.LimitLaws.{within_bound as within}
use Rattle.vpf_write.specs.Inner.WholeLaws.{within_limits}

pub length-header : (h : Head) → length (canonical_header h) ≡ 4 + length (canonical_text h)
length-header h = omega (arith, length-append (number h.order w32 (length (canonical_text h))) (canonical_text h), length-number h.order (length (canonical_text h)))

pub length-table : (g : Grid) → length (canonical_table g) ≡ length (canonical_header g.head) + length (rows_text g.head.order g.head.columns g.rows)
length-table g = length-append (canonical_header g.head) (rows_text g.head.order g.head.columns g.rows)

-- so many bytes of rows pass the limits that the table's own pass
pub record StandsFor (g : Grid) (len : ℕ) : Type 0 where
  pub same : (text rows : ℕ) (varies : Bool) → limit_by text rows (length (canonical_header g.head) + len) varies ≡ limit_by text rows (length (canonical_table g)) varies

pub told_stands : (g : Grid) (len : ℕ) → len ≡ min (length (rows_text g.head.order g.head.columns g.rows)) (2 ^ 64 - 1) → StandsFor g len
told_stands g len e = record { same = λ text rows varies. limit-told text rows (length (canonical_header g.head) + len) (length (canonical_table g)) varies (omega (arith, e, length-table g)) }

pub estimate_stands : (g : Grid) (len : ℕ) → Estimates (length (canonical_header g.head)) (length (rows_text g.head.order g.head.columns g.rows)) len → StandsFor g len
estimate_stands g len (inl e) = told_stands g len e
estimate_stands g len (inr h) = record { same = λ text rows varies. limit-within text rows (length (canonical_header g.head) + len) (length (canonical_table g)) varies h.1 (omega (arith, h.0, h.1, length-table g)) }

limit_is : (g : Grid) (rows len : ℕ) → rows ≡ length g.rows → StandsFor g len → limit_by (length (canonical_text g.head)) rows (length (canonical_header g.head) + len) (varies_in g.head.columns) ≡ first_limit g
limit_is g rows len e s = rw e (s.same (length (canonical_text g.head)) (length g.rows) (varies_in g.head.columns))

-- the limit that was told is the table's own
pub told_limit : (g : Grid) (rows len : ℕ) (told stop : Option (Part × Limit)) → rows ≡ length g.rows → StandsFor g len
    → told ≡ limit_by (length (canonical_text g.head)) rows (length (canonical_header g.head) + len) (varies_in g.head.columns) → told ≡ stop → first_limit g ≡ stop
told_limit g rows len told stop many stands told_is is = sym (limit_is g rows len many stands) ∙ sym told_is ∙ is

-- a table without rows yet has room for them
pub begun_room : (g : Grid) (q : Progress) → q ≡ begun g.head → first_limit g ≡ None → length q.table + length (rows_text g.head.order g.head.columns g.rows) ≤ most_bytes
begun_room g q e f =
    let w = within_limits g f in
    let header : length q.table ≡ length (canonical_header g.head) = ap (λ (p : Progress). length p.table) e in
    omega (arith, w.size_fits, length-table g, header)

length-spans : (o : Order) (cs : List Col) (at : ℕ) (rows : List Row) → length (spans_from o cs at rows) ≡ length rows
unfolding spans_from
length-spans o cs at [] = refl
length-spans o cs at (row ∷ rows) = ap suc (length-spans o cs (at + length (row_text o cs row)) rows)

abbrev index_by : Bool → Order → ℕ → List (ℕ × ℕ) → Option (List ℕ)
index_by b o text spans = cond b (Some (row_index o text spans)) None

index_made : (b : Bool) (o : Order) (text : ℕ) (spans : List (ℕ × ℕ)) → index_by b o text (cond b ([] ++ spans) []) ≡ index_by b o text spans
index_made true o text spans = refl
index_made false o text spans = refl

few_spans : (b : Bool) (spans : List (ℕ × ℕ)) (n : ℕ) → length spans ≡ n → length (cond b ([] ++ spans) []) ≤ n
few_spans true spans n e = omega arith
few_spans false spans n e = omega arith

-- what is written with all rows is the canonical table and its index
pub record IsWritten (g : Grid) (p : Progress) : Type 0 where
  pub table : p.table ≡ canonical_table g
  pub index : index_by p.varies g.head.order (length (canonical_text g.head)) p.spans ≡ canonical_index g
  pub few : length p.spans ≤ length g.rows

pub written_by : (g : Grid) (q p : Progress) → q ≡ begun g.head → p ≡ with_rows g.head.order g.head.columns q g.rows → IsWritten g p
written_by g q p e f =
    let o = g.head.order in
    let cs = g.head.columns in
    let b = varies_in cs in
    let spans = spans_from o cs (length (canonical_header g.head)) g.rows in
    let is : after_rows o cs (begun g.head) g.rows ≡ p = sym (f ∙ ap (λ (x : Progress). with_rows o cs x g.rows) e ∙ with_rows-after o cs (begun g.head) g.rows) in
    let made : IsWritten g (after_rows o cs (begun g.head) g.rows) = record {
      table = refl;
      index = index_made b o (length (canonical_text g.head)) spans;
      few = few_spans b spans (length g.rows) (length-spans o cs _ g.rows);
    } in
    subst (λ (x : Progress). IsWritten g x) is made
