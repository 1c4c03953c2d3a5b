-- The rows of a table that have a value.
use Rattle.std.specs.Prelude.{ℕ, List, Option, Some, None, Result, Ok, Err, slice_get}
use Rattle.vpf_triplet.specs.declared.places.Place.{Place}
use Rattle.vpf_value.specs.Values.{Value}
use Rattle.vpf_head.specs.Head.{Col, place_of}
use Rattle.vpf_table.specs.Grid.{Grid}
use Rattle.vpf_theme.specs.Agreeing.{scan_of}
use Rattle.vpf_theme.specs.Findings.{cells_of}
use Rattle.vpf_select.specs.Words.{value_in}

-- what the word says in a column
abbrev pub word_value : List ℕ → Option Col → Option Value
word_value word None = None
word_value word (Some column) = value_in column.kind column.count word

-- the rows with this value, where there is one
abbrev pub having : Grid → ℕ → Option Value → Option (List ℕ)
having g c None = None
having g c (Some v) = Some (scan_of v (cells_of g c))

-- the rows that have what the word says in the column at this position
abbrev pub having_at : Grid → ℕ → List ℕ → Option (List ℕ)
having_at g c word = having g c (word_value word (slice_get g.head.columns c))

-- the same of the column of a name
abbrev pub having_in : Grid → List ℕ → Option ℕ → Option (List ℕ)
having_in g word None = None
having_in g word (Some c) = having_at g c word

-- the rows of a table, or none where it isn't one
abbrev pub rows_having : List ℕ → List ℕ → Result Grid Place → Option (List ℕ)
rows_having column word (Ok g) = having_in g word (place_of column g.head.columns)
rows_having column word (Err place) = None
