-- What is known of tables by their own laws.
use Rattle.std.proofs.Common.{◌≡◌, ℕ, List, Option, Ok}
use Rattle.std.specs.Prelude.{IfSome}
use Rattle.vpf_base.specs.Bytes.{IsBytes}
use Rattle.vpf_table.specs.Grid.{Grid}
use Rattle.vpf_table.specs.Reading.{table_of}
use Rattle.vpf_table.specs.Opening.{opened_of}
use Rattle.vpf_table.specs.Spans.{IsOpened}

-- tables that are spelled are opened
abbrev pub SpelledIsOpened : Type 0
SpelledIsOpened = (bytes : List ℕ) (index : Option (List ℕ)) (g : Grid) → IsOpened g bytes index → opened_of bytes index ≡ Ok g

-- tables that are opened are spelled
abbrev pub OpenedIsSpelled : Type 0
OpenedIsSpelled = (bytes : List ℕ) (index : Option (List ℕ)) (g : Grid) → IsBytes bytes → IfSome index IsBytes → opened_of bytes index ≡ Ok g → IsOpened g bytes index

-- a table that is opened with its index is read without it
abbrev pub OpenedIsRead : Type 0
OpenedIsRead = (bytes : List ℕ) (index : Option (List ℕ)) (g : Grid) → opened_of bytes index ≡ Ok g → table_of bytes ≡ Ok g
