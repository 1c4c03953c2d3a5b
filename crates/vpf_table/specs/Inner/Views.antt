-- What contracts see of a table.
use Rattle.std.specs.Prelude.{◌≡◌, IfSome}
use Rattle.vpf_table.specs.declared.view.TableView.TheInside.{Inside}
use Rattle.vpf_table.specs.Grid.{Grid}
use Rattle.vpf_table.specs.Opening.{row_spans}

-- the header and the rows
abbrev pub grid_of : Inside → Grid
grid_of t = t.file.grid

-- an index that is kept has the offset and the length of each row
abbrev pub HasOwnIndex : Inside → Type 0
HasOwnIndex t = IfSome t.index (λ entries. entries ≡ row_spans t.file.bytes t.file.grid)
