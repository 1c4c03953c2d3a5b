use Rattle.std.proofs.Common.{◌≡◌, ℕ, ◌+◌, List, length, Option, Result, Ok, Err, refl, ap, subst, arith}
use Rattle.std.specs.Prelude.{IfOk, IfErr}
use Rattle.vpf_base.specs.Limits.{most_rows}
use Rattle.vpf_base.proofs.Results.{done}
use Rattle.vpf_triplet.specs.declared.places.Place.{Place}
use Rattle.vpf_triplet.specs.declared.places.PlaceError.{PlaceError}
use Rattle.vpf_triplet.specs.declared.places.PlaceError.TheVariants as errors
use Rattle.vpf_head.specs.Head.{Head}
use Rattle.vpf_triplet.specs.Places.{Answers, Fails, ForPlace}
use Rattle.vpf_table.specs.Faults.{FirstFault}
use Rattle.vpf_table.specs.Opening.{opened_of}
use Rattle.vpf_table.specs.Spans.{IsOpened}
use Rattle.vpf_head.specs.Reading.{header_of}
use Rattle.vpf_table.specs.Grid.{Row, Grid}
use Rattle.vpf_table.specs.Reading.{rows_at, table_of}
use Rattle.vpf_table.specs.Walking.{counted, rows_of}

pub head_fails : (e : PlaceError) (bytes : List ℕ) → Fails e (header_of bytes) → Fails e (table_of bytes)
unfolding table_of
head_fails errors.NoMemory bytes h = tt
head_fails (errors.Place p) bytes h = rw h refl

pub counted_err : (r : Result (List Row) Place) (p : Place) → Err p ≡ counted 0 r → r ≡ Err p
counted_err (Ok rs) p e = absurd cc
counted_err (Err q) p e = let k : q ≡ p = cc in ap (λ (x : Place). Err x) k

pub counted_ok : (r : Result (List Row) Place) (n : ℕ) → done n ≡ counted 0 r → (r ≡ Ok (rows_of r)) × (n ≡ length (rows_of r))
counted_ok (Ok rs) n e = let k : n ≡ 0 + length rs = cc in (refl, omega arith)
counted_ok (Err q) n e = absurd cc

pub rows_fail : (bytes : List ℕ) (h : Head) (start : ℕ) (p : Place) → header_of bytes ≡ Ok (h, start) → Err p ≡ counted 0 (rows_at most_rows h.order h.columns bytes start) → table_of bytes ≡ Err p
unfolding table_of
rows_fail bytes h start p e f = rw (e, counted_err _ p f) refl

pub opened : (bytes : List ℕ) (h : Head) (start n : ℕ) → header_of bytes ≡ Ok (h, start) → done n ≡ counted 0 (rows_at most_rows h.order h.columns bytes start)
    → table_of bytes ≡ Ok (record { head = h; rows = rows_of (rows_at most_rows h.order h.columns bytes start) })
unfolding table_of
opened bytes h start n e f = let k = counted_ok (rows_at most_rows h.order h.columns bytes start) n f in rw (e, k.0) refl

abbrev whole : Grid → Grid
whole g = g

pub opened_is_spelled : (r : Result Grid PlaceError) (bytes : List ℕ) (index : Option (List ℕ)) → ((g : Grid) → opened_of bytes index ≡ Ok g → IsOpened g bytes index) → Answers whole r (opened_of bytes index) → IfOk r (λ g. IsOpened g bytes index)
opened_is_spelled (Ok g) bytes index spelled e = spelled g e
opened_is_spelled (Err error) bytes index spelled e = tt

pub spelled_is_opened : (r : Result Grid PlaceError) (bytes : List ℕ) (index : Option (List ℕ)) (g : Grid) → opened_of bytes index ≡ Ok g → Answers whole r (opened_of bytes index) → Answers whole r (Ok g)
spelled_is_opened r bytes index g is e = let P : Result Grid Place → Type 0 = λ (x : Result Grid Place). Answers whole r x in subst P is e

pub refused_is_faulty : (r : Result Grid PlaceError) (bytes : List ℕ) (index : Option (List ℕ)) → ((p : Place) → opened_of bytes index ≡ Err p → FirstFault bytes index p) → Answers whole r (opened_of bytes index) → IfErr r (ForPlace (FirstFault bytes index))
refused_is_faulty (Ok g) bytes index faulty e = tt
refused_is_faulty (Err errors.NoMemory) bytes index faulty e = tt
refused_is_faulty (Err (errors.Place p)) bytes index faulty e = faulty p e

-- a table whose header and rows are read so
pub table_read : (bytes : List ℕ) (h : Head) (start : ℕ) (rows : List Row) → header_of bytes ≡ Ok (h, start) → rows_at most_rows h.order h.columns bytes start ≡ Ok rows → table_of bytes ≡ Ok (record { head = h; rows = rows })
unfolding table_of
table_read bytes h start rows e f = rw (e, f) refl
