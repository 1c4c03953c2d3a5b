-- Where the rows of a table lie in its file, and the index that says so (MIL-STD-2407, 5.4, variable-length index file),
-- apart from reading.
use Rattle.std.specs.Prelude.{◌≡◌, ℕ, ◌+◌, ◌≤◌, List, [], ◌∷◌, ◌++◌, length, Option, Some, None}
use Rattle.vpf_base.specs.Limits.{most_rows}
use Rattle.vpf_base.specs.declared.orders.Order.{Order}
use Rattle.vpf_head.specs.Head.{Col}
use Rattle.vpf_head.specs.Spelling.{IsHeader}
use Rattle.vpf_varindex.specs.RowIndex.{IsRowIndex}
use Rattle.vpf_table.specs.Grid.{Row, Grid}
use Rattle.vpf_table.specs.Spelling.{IsRow, IsTable}

-- row after row, and nothing else, the first at `at`: the offset and the length of the spelling of each
abbrev pub AreSpans : Order → List Col → List Row → ℕ → List ℕ → List (ℕ × ℕ) → Type 0
AreSpans o cs [] at b [] = b ≡ []
AreSpans o cs [] at b (s ∷ ss) = ⊥
AreSpans o cs (r ∷ rs) at b [] = ⊥
AreSpans o cs (r ∷ rs) at b (s ∷ ss) = (x : List ℕ) × (y : List ℕ) × (b ≡ x ++ y) × IsRow o cs r x × (s ≡ (at, length x)) × AreSpans o cs rs (at + length x) y ss

-- a table, whose rows have these offsets and lengths in its file
pub record LieAt (g : Grid) (bytes : List ℕ) (spans : List (ℕ × ℕ)) : Type 0 where
  pub front : List ℕ
  pub rest : List ℕ
  pub parts : bytes ≡ front ++ rest
  pub header : IsHeader g.head front
  pub rows : AreSpans g.head.order g.head.columns g.rows (length front) rest spans
  pub most : length g.rows ≤ most_rows

-- a table, and the index of its rows in its order
pub record IsIndexed (g : Grid) (bytes index : List ℕ) : Type 0 where
  pub spans : List (ℕ × ℕ)
  pub lie : LieAt g bytes spans
  pub entries : IsRowIndex g.head.order spans index

-- a table, with its own index where one is given
abbrev pub IsOpened : Grid → List ℕ → Option (List ℕ) → Type 0
IsOpened g bytes None = IsTable g bytes
IsOpened g bytes (Some index) = IsIndexed g bytes index
