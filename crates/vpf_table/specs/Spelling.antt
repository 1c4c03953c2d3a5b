-- The grammar of rows and tables (MIL-STD-2407, 5.4, VPF table encoding), apart from reading.
use Rattle.std.specs.Prelude.{◌≡◌, ℕ, ◌≤◌, List, [], ◌∷◌, ◌++◌, length}
use Rattle.vpf_base.specs.Limits.{most_rows}
use Rattle.vpf_base.specs.declared.orders.Order.{Order}
use Rattle.vpf_findings.specs.Spelling.{IsCell}
use Rattle.vpf_head.specs.Head.{Col}
use Rattle.vpf_head.specs.Spelling.{IsHeader}
use Rattle.vpf_table.specs.Grid.{Row, Grid}

-- one spelling of a cell for each column, and nothing else
abbrev pub IsRow : Order → List Col → Row → List ℕ → Type 0
IsRow o [] [] b = b ≡ []
IsRow o [] (v ∷ vs) b = ⊥
IsRow o (c ∷ cs) [] b = ⊥
IsRow o (c ∷ cs) (v ∷ vs) b = (x : List ℕ) × (y : List ℕ) × (b ≡ x ++ y) × IsCell o c.kind c.count v x × IsRow o cs vs y

-- row after row, and nothing else
abbrev pub IsRows : Order → List Col → List Row → List ℕ → Type 0
IsRows o cs [] b = b ≡ []
IsRows o cs (r ∷ rs) b = (x : List ℕ) × (y : List ℕ) × (b ≡ x ++ y) × IsRow o cs r x × IsRows o cs rs y

-- a header and its rows, at most the most, and nothing else
pub record IsTable (g : Grid) (bytes : List ℕ) : Type 0 where
  pub front : List ℕ
  pub rest : List ℕ
  pub parts : bytes ≡ front ++ rest
  pub header : IsHeader g.head front
  pub rows : IsRows g.head.order g.head.columns g.rows rest
  pub most : length g.rows ≤ most_rows
