-- What was counted is what reading gives.
use Rattle.std.proofs.Common.{◌≡◌, ℕ, List, Some, Result, Ok, Err, refl, sym, ap, subst, ◌∙◌}
use Rattle.std.specs.Prelude.{IsOk}
use Rattle.vpf_base.specs.Limits.{most_rows}
use Rattle.vpf_base.proofs.Results.{ok_is, bind_ok}
use Rattle.vpf_base.specs.Results.{◌>>=◌}
use Rattle.vpf_triplet.specs.declared.places.Place.{Place}
use Rattle.vpf_head.specs.Head.{Head}
use Rattle.vpf_head.specs.Reading.{header_of}
use Rattle.vpf_varindex.specs.Reading.{index_at}
use Rattle.vpf_table.specs.declared.counted.Counted.{Counted}
use Rattle.vpf_table.specs.Inner.Counts.{IsCountOf, IsCountedAs}
use Rattle.vpf_table.specs.Grid.{Grid}
use Rattle.vpf_table.specs.Opening.{row_spans, owned, opened_of}
use Rattle.vpf_table.specs.Reading.{rows_at, table_of}
use Rattle.vpf_table.specs.Walking.{rows_of}
use Rattle.vpf_table.proofs.CellOf.{is_ok_from}
use Rattle.vpf_table.proofs.OpenLemmas.{table_read}
use Rattle.vpf_table.proofs.Owning.{owned_is}

-- the header that the bytes begin with is the one behind which was counted
pub counted_so : (bytes : List ℕ) (h : Head) (start : ℕ) (c : Counted) → header_of bytes ≡ Ok (h, start) → IsCountOf bytes c → IsCountedAs bytes h start c
counted_so bytes h start c e k =
    let same : (k.head, c.start) ≡ (h, start) = ok_is {x = (k.head, c.start)} {y = (h, start)} (sym k.begun ∙ e) in
    subst (λ (x : Head × ℕ). IsCountedAs bytes x.0 x.1 c) same k.counts

-- the table of bytes that were counted
pub counted_table : (bytes : List ℕ) (h : Head) (start : ℕ) (c : Counted) → header_of bytes ≡ Ok (h, start) → IsCountOf bytes c
    → table_of bytes ≡ Ok (record { head = h; rows = rows_of (rows_at most_rows h.order h.columns bytes start) })
counted_table bytes h start c e k = table_read bytes h start (rows_of (rows_at most_rows h.order h.columns bytes start)) e (counted_so bytes h start c e k).read

-- bytes that were counted are a table
pub counted_is_table : (bytes : List ℕ) (c : Counted) → IsCountOf bytes c → IsOk (table_of bytes)
counted_is_table bytes c k = is_ok_from (table_of bytes) _ (counted_table bytes k.head c.start c k.begun k)

ok_of : {A : Type 0} (r : Result A Place) → IsOk r → (x : A) × (r ≡ Ok x)
ok_of (Ok x) h = (x, refl)
ok_of (Err p) h = absurd cc

-- the entries of an index with which a table is known to be opened
pub known_own : (bytes index : List ℕ) (g : Grid) → table_of bytes ≡ Ok g → IsOk (opened_of bytes (Some index))
    → (entries : List (ℕ × ℕ)) × (index_at g.head.order index ≡ Ok entries) × (entries ≡ row_spans bytes g) × (opened_of bytes (Some index) ≡ Ok g)
known_own bytes index g e ok =
    let all = ok_of (opened_of bytes (Some index)) ok in
    let t = bind_ok (table_of bytes) (λ h. index_at h.head.order index >>= λ entries. owned h entries (row_spans bytes h)) all.0 all.1 in
    let same : t.0 ≡ g = ok_is {x = t.0} {y = g} (sym t.1 ∙ e) in
    let there = subst (λ (h : Grid). (index_at h.head.order index >>= λ entries. owned h entries (row_spans bytes h)) ≡ Ok all.0) same t.2 in
    let i = bind_ok (index_at g.head.order index) (λ entries. owned g entries (row_spans bytes g)) all.0 there in
    let own = owned_is g all.0 i.0 (row_spans bytes g) i.2 in
    (i.0, i.1, own.1, all.1 ∙ ap (λ (x : Grid). Ok x) (sym own.0))
