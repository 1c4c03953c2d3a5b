-- The thematic index is read.
use Rattle.std.proofs.Common.{◌≡◌, Ok, length, refl}
use Rattle.vpf_base.specs.declared.orders.Order.TheVariants.{Little}
use Rattle.vpf_value.specs.Reading.{sized}
use Rattle.vpf_theme.specs.Layouts.{header_fields, layout_of}
use Rattle.vpf_theme.specs.Entries.{entry_of, extent_of, is_marked, number_at, value_of}
use Rattle.vpf_theme.specs.Reading.{entries_line, entry_line, theme_of}
use Rattle.vpf_drill.specs.Inner.Worked.Held.{worked_index_bytes}
use Rattle.vpf_drill.specs.Inner.Worked.Tables.{worked_index}

pub index_read : theme_of Little worked_index_bytes ≡ Ok worked_index
unfolding theme_of layout_of header_fields entries_line entry_line entry_of extent_of is_marked number_at value_of sized
index_read = refl

-- it has few bytes: a header of 60, two entries of 12, and the two rows of the first
pub index_size : length worked_index_bytes ≡ 88
index_size = refl
