-- The first fault of a file that is no table, or of an index that isn't the table's own, apart from reading: the parts before
-- it are spelled, and the next part is refused there by the first of its rules that applies (MIL-STD-2407, 5.4, VPF table
-- encoding and variable-length index file).
use Rattle.std.specs.Prelude.{◌≡◌, ◌≢◌, ℕ, ◌+◌, ◌<◌, List, ◌∷◌, ◌++◌, length, take, drop, Option, Some, slice_get}
use Rattle.vpf_base.specs.Limits.{most_rows}
use Rattle.vpf_base.specs.declared.orders.Order.{Order}
use Rattle.vpf_triplet.specs.declared.places.Place.{Place}
use Rattle.vpf_triplet.specs.declared.places.Code.TheVariants as codes
use Rattle.vpf_triplet.specs.Places.{fault, index_fault}
use Rattle.vpf_findings.specs.Faults as values
use Rattle.vpf_head.specs.Faults as headers
use Rattle.vpf_head.specs.Head.{Head, Col}
use Rattle.vpf_head.specs.Spelling.{IsHeader}
use Rattle.vpf_varindex.specs.Faults as indexes
use Rattle.vpf_varindex.specs.RowIndex.{IsRowIndex}
use Rattle.vpf_table.specs.Grid.{Row, Grid}
use Rattle.vpf_table.specs.Spans.{LieAt}
use Rattle.vpf_table.specs.Spelling.{IsRow, IsRows, IsTable}

-- the bytes begin with a header and so many rows, and more bytes follow at this offset
pub record Begins (bytes : List ℕ) (h : Head) (rows : List Row) (at : ℕ) : Type 0 where
  pub front : List ℕ
  pub body : List ℕ
  pub rest : List ℕ
  pub parts : bytes ≡ front ++ (body ++ rest)
  pub header : IsHeader h front
  pub spelled : IsRows h.order h.columns rows body
  pub there : at ≡ length front + length body
  pub more : 0 < length rest

-- of the row that begins at an offset the cells before a place are spelled, and the next cell is refused there
pub record Stops (o : Order) (cs : List Col) (bytes : List ℕ) (at : ℕ) (place : Place) : Type 0 where
  pub before : List Col
  pub next : Col
  pub after : List Col
  pub cells : Row
  pub text : List ℕ
  pub rest : List ℕ
  pub columns : cs ≡ before ++ next ∷ after
  pub parts : drop at bytes ≡ text ++ rest
  pub spelled : IsRow o before cells text
  pub refused : values.FirstCellFault o next.kind next.count rest place.code
  pub there : place ≡ fault (at + length text) place.code

-- the first fault of the table's own file
pub data TableFault (bytes : List ℕ) : Place → Type 0 where
  in_header : (place : Place) → headers.FirstHeaderFault bytes place → TableFault bytes place
  in_row : (h : Head) (rows : List Row) (at : ℕ) (place : Place) → Begins bytes h rows at → length rows < most_rows → Stops h.order h.columns bytes at place → TableFault bytes place
  too_many : (h : Head) (rows : List Row) (at : ℕ) → Begins bytes h rows at → length rows ≡ most_rows → TableFault bytes (fault at (codes.LimitRows (most_rows + 1)))

-- entry k, counted from 0, is the first that isn't its row's offset and length
pub record Differs (k : ℕ) (entries spans : List (ℕ × ℕ)) : Type 0 where
  pub before : take k entries ≡ take k spans
  pub inside : k < length entries
  pub other : slice_get entries k ≢ slice_get spans k

-- the first fault of the table and, where it has none, of the index that is given with it
pub data FirstFault (bytes : List ℕ) : Option (List ℕ) → Place → Type 0 where
  in_table : (index : Option (List ℕ)) (place : Place) → TableFault bytes place → FirstFault bytes index place
  in_index : (g : Grid) (index : List ℕ) (place : Place) → IsTable g bytes → indexes.FirstIndexFault g.head.order index place → FirstFault bytes (Some index) place
  other_count : (g : Grid) (index : List ℕ) (entries : List (ℕ × ℕ)) → IsTable g bytes → IsRowIndex g.head.order entries index → length entries ≢ length g.rows → FirstFault bytes (Some index) (index_fault 0 codes.IndexCount)
  other_entry : (g : Grid) (index : List ℕ) (entries spans : List (ℕ × ℕ)) (k : ℕ) → LieAt g bytes spans → IsRowIndex g.head.order entries index → length entries ≡ length spans → Differs k entries spans
      → FirstFault bytes (Some index) (index_fault (indexes.index_entry_start k) codes.IndexRow)
