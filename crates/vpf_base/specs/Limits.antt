-- The bounds of what is read and written.
use Rattle.std.specs.Prelude.{ℕ}
use Rattle.vpf_base.specs.declared.limits.TheConstants.{LONGEST_NAME, LONGEST_TEXT, MOST_COLUMNS, MOST_FILE_BYTES, MOST_ROWS, MOST_VALUES}

-- the most bytes of a file
abbrev pub most_bytes : ℕ
most_bytes = MOST_FILE_BYTES

-- the most bytes of a header's text
abbrev pub longest_text : ℕ
longest_text = LONGEST_TEXT

-- the most columns of a table
abbrev pub most_columns : ℕ
most_columns = MOST_COLUMNS

-- the most bytes of a name in a header
abbrev pub longest_name : ℕ
longest_name = LONGEST_NAME

-- the most values that a field counts
abbrev pub most_values : ℕ
most_values = MOST_VALUES

-- the most rows of a table
abbrev pub most_rows : ℕ
most_rows = MOST_ROWS
