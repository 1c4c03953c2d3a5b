-- A file whose bytes become its table in another order where they lie.
use Rattle.std.specs.Prelude.{◌≡◌, ◌≢◌, ℕ, ◌≤◌, ◌<◌, ◌^◌, List, ◌++◌, length, drop, Some, None, false}
use Rattle.vpf_base.specs.declared.orders.Order.{Order}
use Rattle.vpf_head.specs.Head.{varies_in}
use Rattle.vpf_write.specs.declared.in_place.Turning.{Turning}
use Rattle.vpf_table.specs.Canonical.{canonical_table, canonical_index, in_order}
use Rattle.vpf_table.specs.Grid.{Grid}
use Rattle.vpf_write.specs.Inner.Turning.{turned_rows}
use Rattle.vpf_table.specs.Inner.Widths.{width_of}
use Rattle.vpf_write.specs.Writing.{first_limit}

-- there is room for the header
abbrev pub HasRoom : Turning → List ℕ → Type 0
HasRoom t bytes = length t.front.items ≤ length bytes

-- the header in place of the first bytes, and the others with their words turned round
abbrev pub turned_file : Turning → List ℕ → List ℕ
turned_file t bytes = t.front.items ++ turned_rows t.fields.items t.width (drop (length t.front.items) bytes)

-- The bytes become this table, which passes no limit and has no index.
pub record Turns (t : Turning) (bytes : List ℕ) (g : Grid) : Type 0 where
  pub room : HasRoom t bytes
  pub limit : first_limit g ≡ None
  pub table : turned_file t bytes ≡ canonical_table g
  pub index : canonical_index g ≡ None

-- The rows have one width, of some bytes, and are in another order; and in this one the table passes no limit and is as long.
pub record CanTurn (g : Grid) (bytes : List ℕ) (order : Order) : Type 0 where
  pub width : ℕ
  pub some : 0 < width
  pub fits : width < 2 ^ 64
  pub wide : width_of g.head.columns ≡ Some width
  pub alike : varies_in g.head.columns ≡ false
  pub other : g.head.order ≢ order
  pub limit : first_limit (in_order order g) ≡ None
  pub long : length bytes ≡ length (canonical_table (in_order order g))
