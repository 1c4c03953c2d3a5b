-- What a table says (MIL-STD-2407, 5.4, VPF table encoding).
use Rattle.std.specs.Prelude.{List}
use Rattle.vpf_findings.specs.Values.{Value}
use Rattle.vpf_head.specs.Head.{Head}

-- a row: a value for each column
abbrev pub Row : Type 0
Row = List Value

-- a table: its header and its rows
pub record Grid : Type 0 where
  pub head : Head
  pub rows : List Row
