-- Walking what is left of a file row by row, by the form of its rows.
use Rattle.std.specs.Prelude.{◌≡◌, ℕ, zero, suc, ◌+◌, ◌<◌, ◌≤◌, ◌^◌, List, [], ◌∷◌, ◌++◌, length, drop, Result, Ok, Err, nat_lt, nat_le, if◌then◌else◌}
use Rattle.vpf_base.specs.Limits.{most_rows}
use Rattle.vpf_base.specs.Results.{◌>>=◌}
use Rattle.vpf_base.specs.declared.orders.Order.{Order}
use Rattle.vpf_triplet.specs.declared.places.Place.{Place}
use Rattle.vpf_triplet.specs.declared.places.Code.{Code}
use Rattle.vpf_triplet.specs.declared.places.Code.TheVariants as codes
use Rattle.vpf_triplet.specs.Places.{fault}
use Rattle.vpf_feed.specs.declared.row_form.form.Field.{Field}
use Rattle.vpf_feed.specs.declared.row_form.looking.Look.{Look}
use Rattle.vpf_feed.specs.declared.row_form.looking.Look.TheVariants as looks
use Rattle.vpf_feed.specs.Inner.RowForm.Form.{cell_size}

-- where a cell that begins at `at` ends, and what follows it
abbrev pub passed : ℕ → List ℕ → Result ℕ Code → Result (ℕ × List ℕ) Place
passed at rest (Ok n) = Ok (at + n, drop n rest)
passed at rest (Err code) = Err (fault at code)

-- where the row ends of which these cells are left, the first at `at`, and what follows it
unfoldable pub row_left : Order → List Field → ℕ → List ℕ → Result (ℕ × List ℕ) Place
row_left o [] at rest = Ok (at, rest)
row_left o (f ∷ fs) at rest = passed at rest (cell_size o f rest) >>= λ r. row_left o fs r.0 r.1

-- how many rows there are in all, where so many are done and so many more may be begun: the next at `at`, where a byte is left
unfoldable pub rows_to_come : ℕ → Order → List Field → ℕ → ℕ → List ℕ → Result ℕ Place
rows_to_come zero o fs done at rest = if nat_le (length rest) 0 then Ok done else Err (fault at (codes.LimitRows (most_rows + 1)))
rows_to_come (suc n) o fs done at rest = if nat_le (length rest) 0 then Ok done else row_left o fs at rest >>= λ r. rows_to_come n o fs (done + 1) r.0 r.1

-- where a row ends in these bytes, and what follows it there
abbrev pub with_rest : List ℕ → Result ℕ Place → Result (ℕ × List ℕ) Place
with_rest bytes (Ok n) = Ok (n, drop n bytes)
with_rest bytes (Err place) = Err place

-- so many bytes, whatever they say; cut where fewer are there
abbrev pub sized_end : ℕ → List ℕ → Result ℕ Code
sized_end n bytes = if nat_lt (length bytes) n then Err codes.CellCut else Ok n

-- what the bytes of a cell so far tell of it, whatever follows
abbrev pub TellsCell : Order → Field → List ℕ → Look → Type 0
-- it is whole
TellsCell o f bytes (looks.Whole n) = (0 < n) × (n ≤ length bytes) × ((more : List ℕ) → cell_size o f (bytes ++ more) ≡ Ok n)
-- it has more bytes than that, whatever they say
TellsCell o f bytes (looks.Skip n) = (length bytes < n) × (n < 2 ^ 40) × ((more : List ℕ) → cell_size o f (bytes ++ more) ≡ sized_end n (bytes ++ more))
-- the next bytes have to be looked at, together with these few
TellsCell o f bytes looks.Keep = (length bytes < 13) × (cell_size o f bytes ≡ Err codes.CellCut)
-- no bytes that follow make it one
TellsCell o f bytes (looks.Refused code) = (more : List ℕ) → cell_size o f (bytes ++ more) ≡ Err code

-- the cell at the front takes so many of the bytes, whatever follows
pub record IsWholeCell (o : Order) (f : Field) (bytes : List ℕ) (n : ℕ) : Type 0 where
  pub inside : n ≤ length bytes
  pub size : (more : List ℕ) → cell_size o f (bytes ++ more) ≡ Ok n

-- so does the row at the front, which begins at `at`
pub record IsWholeRow (o : Order) (fs : List Field) (bytes : List ℕ) (n : ℕ) : Type 0 where
  pub inside : n ≤ length bytes
  pub row : (at : ℕ) (more : List ℕ) → row_left o fs at (bytes ++ more) ≡ Ok (at + n, drop n bytes ++ more)
