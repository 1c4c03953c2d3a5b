-- What was read of a tree: each table is that of some bytes.
use Rattle.std.proofs.Common.{◌≡◌, ℕ, ◌≤◌, List, length, Ok}
use Rattle.vpf_base.specs.Bytes.{IsBytes}
use Rattle.vpf_base.specs.Limits.{most_rows}
use Rattle.vpf_base.specs.declared.orders.Order.{Order}
use Rattle.vpf_table.specs.Canonical.{IsWritable, in_order}
use Rattle.vpf_table.specs.Grid.{Grid}
use Rattle.vpf_table.specs.Reading.{table_of}
use Rattle.vpf_table.specs.Spelling.{IsTable}
use Rattle.vpf_library_commands.specs.Inner.TileTheorem.Tilings.ReadLaws.{ReadsGrid as IsReadGrid}

-- what is read can be written, and has few rows
pub grid_writable : ((bytes : List ℕ) (g : Grid) (order : Order) → IsBytes bytes → table_of bytes ≡ Ok g → IsWritable (in_order order g)) → (g : Grid)
    → IsReadGrid g → IsWritable g
grid_writable writable g r = writable r.bytes g g.head.order r.are r.read

pub grid_few : ((bytes : List ℕ) (g : Grid) → IsBytes bytes → table_of bytes ≡ Ok g → IsTable g bytes) → (g : Grid) → IsReadGrid g → length g.rows ≤ most_rows
grid_few spelled g r = (spelled r.bytes g r.are r.read).most
