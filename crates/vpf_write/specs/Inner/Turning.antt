-- Rows of one width in the other byte order: the same bytes, with the words of their cells turned round.
use Rattle.std.specs.Prelude.{ℕ, ◌/◌, List, [], ◌∷◌, ◌++◌, length, take, drop, map, reverse, Option, Some, None, sum_by}
use Rattle.vpf_value.specs.Inner.Turning.{each_piece, word_size, turned_cell}
use Rattle.vpf_value.specs.Widths.{cell_width}
use Rattle.vpf_head.specs.Head.{Col}
use Rattle.vpf_write.specs.declared.turning.Field.{Field}

-- a number of bytes, or 0 where there is none
abbrev pub bytes_or_none : Option ℕ → ℕ
bytes_or_none None = 0
bytes_or_none (Some n) = n

-- the words and the width of the cells of a column
abbrev pub field_of : Col → Field
field_of c = record { word = word_size c.kind; width = bytes_or_none (cell_width c.kind c.count) }

-- the fields of these columns
abbrev pub fields_of : List Col → List Field
fields_of cs = map field_of cs

-- how many bytes a row of these fields has
abbrev pub fields_width : List Field → ℕ
fields_width fs = sum_by (λ f. f.width) fs

-- from `from` on so many words of this many bytes, each turned round, and everything else as it is
abbrev pub turned_words : ℕ → ℕ → ℕ → List ℕ → List ℕ
turned_words from many size bytes = take from bytes ++ each_piece reverse many size (drop from bytes)

-- the bytes of a row of these fields, each word turned round
unfoldable pub turned_row : List Field → List ℕ → List ℕ
turned_row [] bytes = bytes
turned_row (f ∷ fs) bytes = turned_cell f.word (take f.width bytes) ++ turned_row fs (drop f.width bytes)

-- the bytes of rows of this width, each word turned round
abbrev pub turned_rows : List Field → ℕ → List ℕ → List ℕ
turned_rows fs width bytes = each_piece (turned_row fs) (length bytes / width) width bytes
