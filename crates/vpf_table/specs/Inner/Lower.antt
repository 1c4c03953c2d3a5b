-- What is known of cells, headers and indexes by their own laws.
use Rattle.std.specs.Prelude.{◌≡◌, ◌≢◌, ℕ, ◌<◌, ◌≤◌, ◌^◌, All, List, ◌++◌, length, take, Ok, Err}
use Rattle.vpf_base.specs.Bytes.{IsBytes}
use Rattle.vpf_base.specs.declared.orders.Order.{Order}
use Rattle.vpf_triplet.specs.declared.kinds.Kind.{Kind}
use Rattle.vpf_triplet.specs.declared.kinds.Kind.TheVariants as kinds
use Rattle.vpf_triplet.specs.declared.kinds.Count.{Count}
use Rattle.vpf_triplet.specs.declared.kinds.Count.TheVariants.{Fixed}
use Rattle.vpf_triplet.specs.declared.places.Place.{Place}
use Rattle.vpf_triplet.specs.declared.places.Code.{Code}
use Rattle.vpf_findings.specs.Faults as cells
use Rattle.vpf_findings.specs.Values.{Value}
use Rattle.vpf_findings.specs.Reading.{cell_from}
use Rattle.vpf_findings.specs.Spelling.{IsCell}
use Rattle.vpf_head.specs.Inner.Deciding.{BeginsHeader}
use Rattle.vpf_head.specs.Faults as headers
use Rattle.vpf_head.specs.Head.{Head}
use Rattle.vpf_head.specs.Reading.{header_of}
use Rattle.vpf_head.specs.Inner.Soundness.{IsSound}
use Rattle.vpf_head.specs.Spelling.{IsHeader}
use Rattle.vpf_varindex.specs.Faults as indexes
use Rattle.vpf_varindex.specs.Reading.{index_at}
use Rattle.vpf_varindex.specs.RowIndex.{row_index, HasSpan, IsRowIndex}

-- cells and headers that are spelled are read, and those that are read are spelled and sound; they are refused exactly where
-- they have their first fault
pub record CellAndHeaderLaws : Type 0 where
  pub cell_is_read : (o : Order) (kind : Kind) (count : Count) (v : Value) (text rest : List ℕ) → IsCell o kind count v text → cell_from o kind count (text ++ rest) ≡ Ok (v, length text)
  pub cell_is_spelled : (o : Order) (kind : Kind) (count : Count) (bytes : List ℕ) (v : Value) (n : ℕ) → IsBytes bytes → cell_from o kind count bytes ≡ Ok (v, n) → (n ≤ length bytes) × IsCell o kind count v (take n bytes)
  pub cell_has_room : (o : Order) (kind : Kind) (count : Count) (v : Value) (text : List ℕ) → kind ≢ kinds.X → count ≢ Fixed 0 → IsCell o kind count v text → 0 < length text
  pub cell_fault : (o : Order) (kind : Kind) (count : Count) (bytes : List ℕ) (code : Code) → IsBytes bytes → cell_from o kind count bytes ≡ Err code → cells.FirstCellFault o kind count bytes code
  pub cell_is_refused : (o : Order) (kind : Kind) (count : Count) (bytes : List ℕ) (code : Code) → cells.FirstCellFault o kind count bytes code → cell_from o kind count bytes ≡ Err code
  pub header_is_read : (bytes : List ℕ) (h : Head) (text rest : List ℕ) → BeginsHeader bytes h text rest → header_of bytes ≡ Ok (h, length text)
  pub header_is_spelled : (bytes : List ℕ) (h : Head) (start : ℕ) → IsBytes bytes → header_of bytes ≡ Ok (h, start) → (start ≤ length bytes) × IsHeader h (take start bytes)
  pub header_is_sound : (bytes : List ℕ) (h : Head) (start : ℕ) → header_of bytes ≡ Ok (h, start) → IsSound h
  pub header_fault : (bytes : List ℕ) (place : Place) → header_of bytes ≡ Err place → headers.FirstHeaderFault bytes place
  pub header_is_refused : (bytes : List ℕ) (place : Place) → headers.FirstHeaderFault bytes place → header_of bytes ≡ Err place

-- indexes that are spelled are read, those that are read are spelled, and those that are written are read; they are refused
-- exactly where they have their first fault
pub record IndexLaws : Type 0 where
  pub index_is_read : (o : Order) (spans : List (ℕ × ℕ)) (bytes : List ℕ) → IsRowIndex o spans bytes → index_at o bytes ≡ Ok spans
  pub index_is_spelled : (o : Order) (spans : List (ℕ × ℕ)) (bytes : List ℕ) → IsBytes bytes → index_at o bytes ≡ Ok spans → IsRowIndex o spans bytes
  pub written_is_read : (o : Order) (second : ℕ) (spans : List (ℕ × ℕ)) → length spans < 2 ^ 32 → All HasSpan spans → index_at o (row_index o second spans) ≡ Ok spans
  pub index_fault : (o : Order) (bytes : List ℕ) (place : Place) → index_at o bytes ≡ Err place → indexes.FirstIndexFault o bytes place
  pub index_is_refused : (o : Order) (bytes : List ℕ) (place : Place) → indexes.FirstIndexFault o bytes place → index_at o bytes ≡ Err place
