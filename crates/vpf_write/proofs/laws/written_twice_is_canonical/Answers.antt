use Rattle.std.proofs.Common.{◌∙◌}
use Rattle.vpf_table.specs.Canonical.{canonical_table, in_order}
use Rattle.vpf_table.specs.Reading.{table_of}
use Rattle.vpf_write.proofs.WritingLaws.{limits_either, same_table, writable_in_order, twice_table, twice_index}
use Rattle.vpf_write.specs.Inner.WritingLaws.{small_table}
use Rattle.vpf_write.proofs.laws.written_twice_is_canonical.Goals as goal

pub returns-clause-limits : goal.returns-clause-limits
returns-clause-limits c = limits_either c.fitting_is_written.ensures.either c.canonical_is_read-2.ensures.as_long

pub returns-clause-table : goal.returns-clause-table
returns-clause-table c =
    λ g h order w e read.
    let turned = in_order order g in
    let small = small_table turned (limits_either c.fitting_is_written.ensures.either c.canonical_is_read-2.ensures.as_long g order ∙ e) in
    let again = c.canonical_is_read.ensures.read_again turned (writable_in_order c.sound_headers_stay_sound.ensures.in_each_order g order w) small in
    twice_table g h order (same_table turned h (table_of (canonical_table turned)) again read)

pub returns-clause-index : goal.returns-clause-index
returns-clause-index c =
    λ g h order w e read.
    let turned = in_order order g in
    let small = small_table turned (limits_either c.fitting_is_written.ensures.either c.canonical_is_read-2.ensures.as_long g order ∙ e) in
    let again = c.canonical_is_read.ensures.read_again turned (writable_in_order c.sound_headers_stay_sound.ensures.in_each_order g order w) small in
    twice_index g h order (same_table turned h (table_of (canonical_table turned)) again read)
