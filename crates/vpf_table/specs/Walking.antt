-- The parts of what reading gives.
use Rattle.std.specs.Prelude.{ℕ, ◌+◌, List, [], length, Result, Ok, Err}
use Rattle.vpf_triplet.specs.declared.places.Place.{Place}
use Rattle.vpf_table.specs.Grid.{Row}

-- where a part ends, without its value
abbrev pub end_of : {X : Type 0} → Result (X × ℕ) Place → Result ℕ Place
end_of (Ok x) = Ok x.1
end_of (Err p) = Err p

-- how many rows, with those before
abbrev pub counted : ℕ → Result (List Row) Place → Result ℕ Place
counted before (Ok rs) = Ok (before + length rs)
counted before (Err p) = Err p

-- the cells of a row that is read
abbrev pub row_of : Result (Row × ℕ) Place → Row
row_of (Ok r) = r.0
row_of (Err p) = []

-- where a row that is read ends
abbrev pub past_of : Result (Row × ℕ) Place → ℕ
past_of (Ok r) = r.1
past_of (Err p) = 0

-- the rows that are read
abbrev pub rows_of : Result (List Row) Place → List Row
rows_of (Ok rs) = rs
rows_of (Err p) = []
