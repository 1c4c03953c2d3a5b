-- What contracts see of a list of cells.
use Rattle.std.specs.Prelude.{map}
use Rattle.vpf_value.specs.Values.{view}
use Rattle.vpf_write.specs.declared.cell_list.CellList.TheInside.{Inside}
use Rattle.vpf_table.specs.Grid.{Row}

-- the values of its cells
abbrev pub listed_values : Inside → Row
listed_values s = map view s.cells.items
