-- What is written in either order, and of rows that are joined.
use Rattle.std.proofs.Common.{◌≡◌, None, arith}
use Rattle.vpf_table.specs.Grid.{Grid}
use Rattle.vpf_table.specs.Canonical.{IsSmall}
use Rattle.vpf_write.specs.Writing.{first_limit}
use Rattle.vpf_write.specs.Inner.WholeLaws.{within_limits}

-- a table that passes no limit is small
pub small_table : (g : Grid) → first_limit g ≡ None → IsSmall g
small_table g e = let w = within_limits g e in record { text = w.text_fits; rows = w.rows_fit; bytes = omega (arith, w.size_fits) }
