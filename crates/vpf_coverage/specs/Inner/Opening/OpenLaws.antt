-- The files of a folder are opened as its tables.
use Rattle.std.proofs.Common.{◌≡◌, ℕ, List, Option, Ok}
use Rattle.vpf_table.specs.Grid.{Grid}
use Rattle.vpf_table.specs.Opening.{opened_of}
use Rattle.vpf_table.specs.Reading.{table_of}

-- what is opened as a table is read as that table
abbrev pub OpenedReads : Type 0
OpenedReads = (bytes : List ℕ) (index : Option (List ℕ)) (g : Grid) → opened_of bytes index ≡ Ok g → table_of bytes ≡ Ok g
