-- What writing a table gives: its canonical bytes, or the first limit that they pass.
use Rattle.std.specs.Prelude.{◌≡◌, ℕ, ◌≤◌, ◌⊎◌, ◌+◌, ◌-◌, ◌*◌, ◌^◌, min, ◌&&◌, Bool, length, Option, Some, None, Result, Ok, Err, nat_lt, if◌then◌else◌}
use Rattle.vpf_base.specs.Limits.{most_bytes, longest_text, most_rows}
use Rattle.vpf_triplet.specs.declared.places.Part.{Part}
use Rattle.vpf_triplet.specs.declared.places.Part.TheVariants as parts
use Rattle.vpf_head.specs.Canonical.{canonical_text}
use Rattle.vpf_head.specs.Head.{varies_in}
use Rattle.vpf_table.specs.declared.limit.Bound.{Bound}
use Rattle.vpf_table.specs.declared.limit.Bound.TheVariants as bounds
use Rattle.vpf_table.specs.declared.limit.Limit.{Limit}
use Rattle.vpf_write.specs.declared.writing.Written.{Written}
use Rattle.vpf_write.specs.declared.writing.WriteError.{WriteError}
use Rattle.vpf_write.specs.declared.writing.WriteError.TheVariants as errors
use Rattle.vpf_table.specs.Grid.{Grid}
use Rattle.vpf_table.specs.Canonical.{canonical_table, canonical_index}

-- the bound is passed by this number, which is told up to the last of 64 bits
abbrev pub past : Part → Bound → ℕ → Option (Part × Limit)
past part what found = Some (part, record { what = what; found = min found (2 ^ 64 - 1) })

-- how many bytes the index of so many rows has: 8, and 8 for each
abbrev pub index_size : ℕ → ℕ
index_size rows = 8 + 8 * rows

-- the first limit that is passed by a header text of so many bytes, so many rows, a file of so many bytes, or its index, where rows vary
unfoldable pub limit_by : ℕ → ℕ → ℕ → Bool → Option (Part × Limit)
limit_by text rows size varies =
    if nat_lt longest_text text then past parts.Table bounds.Header text
    else if nat_lt most_rows rows then past parts.Table bounds.Rows rows
    else if nat_lt most_bytes size then past parts.Table bounds.File size
    else if varies && nat_lt most_bytes (index_size rows) then past parts.Index bounds.File (index_size rows)
    else None

-- the first limit that the canonical table or its index passes
abbrev pub first_limit : Grid → Option (Part × Limit)
first_limit g = limit_by (length (canonical_text g.head)) (length g.rows) (length (canonical_table g)) (varies_in g.head.columns)

-- A number of bytes that serves for the limits of a file with so many bytes before it: the exact one, told up to the last of 64 bits,
-- or one that is no less and passes no limit.
abbrev pub Estimates : ℕ → ℕ → ℕ → Type 0
Estimates front exact told = (told ≡ min exact (2 ^ 64 - 1)) ⊎ ((exact ≤ told) × (front + told ≤ most_bytes))

-- A call wrote the canonical table and its index, which pass no limit; or answered the first limit that they pass, or that memory
-- ran out.
abbrev pub Writes : Grid → Result Written WriteError → Type 0
Writes g (Ok made) = (first_limit g ≡ None) × (made.table ≡ canonical_table g) × (made.index ≡ canonical_index g)
Writes g (Err errors.NoMemory) = Unit {0}
Writes g (Err (errors.Limit part limit)) = first_limit g ≡ Some (part, limit)
