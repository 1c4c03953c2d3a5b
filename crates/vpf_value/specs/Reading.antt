-- Reading a cell from the front of bytes, with the code of the first fault.
use Rattle.std.specs.Prelude.{◌≡◌, ℕ, ◌+◌, ◌-◌, ◌*◌, ◌≤◌, List, length, take, drop, Result, Ok, Err, nat_lt, if◌then◌else◌}
use Rattle.std.specs.Int.{w16, w32, w64, cast_signed}
use Rattle.vpf_triplet.specs.Results.{◌>>=◌}
use Rattle.vpf_base.specs.declared.orders.Order.{Order}
use Rattle.vpf_triplet.specs.declared.kinds.Kind.{Kind}
use Rattle.vpf_triplet.specs.declared.kinds.Kind.TheVariants as kinds
use Rattle.vpf_triplet.specs.declared.kinds.Count.{Count}
use Rattle.vpf_triplet.specs.declared.kinds.Count.TheVariants.{Fixed, Star}
use Rattle.vpf_triplet.specs.declared.places.Place.{Place}
use Rattle.vpf_triplet.specs.declared.places.Code.{Code}
use Rattle.vpf_triplet.specs.declared.places.Code.TheVariants as codes
use Rattle.vpf_base.specs.Numbers.{number_of}
use Rattle.vpf_triplet.specs.Places.{fault}
use Rattle.vpf_triplet.specs.Reading.{triplet_at}
use Rattle.vpf_value.specs.declared.coords.WordWidth.{WordWidth}
use Rattle.vpf_value.specs.declared.coords.WordWidth.TheVariants.{Four, Eight}
use Rattle.vpf_value.specs.declared.coords.Tuple.{Tuple}
use Rattle.vpf_value.specs.declared.coords.Tuple.TheVariants.{Pair, Triple}
use Rattle.vpf_value.specs.declared.cells.Cell.{Cell}
use Rattle.vpf_value.specs.Words.{word_bytes, tuple_len, words_of}
use Rattle.vpf_value.specs.Values.{Value, TextOf, Word4Of, Word8Of, NumberOf, DateOf, Nothing, TripletOf, WordsOf, date_bytes, view}

-- a value and how many bytes it takes, or why there is none
abbrev pub CellAnswer : Type 0
CellAnswer = Result (Value × ℕ) Code

-- a cell of so many bytes, which say this value; cut where fewer are left
unfoldable pub sized : ℕ → Value → List ℕ → CellAnswer
sized n value bytes = if nat_lt (length bytes) n then Err codes.CellCut else Ok (value, n)

-- a text of `n` bytes
abbrev pub text_from : ℕ → List ℕ → CellAnswer
text_from n bytes = sized n (TextOf (take n bytes)) bytes

-- `n` tuples of words
abbrev pub tuples_from : Order → WordWidth → Tuple → ℕ → List ℕ → CellAnswer
tuples_from o width tuple n bytes = sized (word_bytes width * (tuple_len tuple * n)) (WordsOf width (words_of o width (tuple_len tuple * n) bytes)) bytes

-- a count of 4 bytes, and then what is read for that count
unfoldable pub counted_from : Order → (ℕ → List ℕ → CellAnswer) → List ℕ → CellAnswer
counted_from o read bytes =
    if nat_lt (length bytes) 4 then Err codes.CellCut
    else (read (number_of o w32 bytes) (drop 4 bytes) >>= λ x. Ok (x.0, 4 + x.1))

-- a triplet id
unfoldable pub triplet_from : Order → List ℕ → CellAnswer
triplet_from o bytes = triplet_at o bytes >>= λ x. Ok (TripletOf x.0, x.1)

-- as many values as a count says, which stands in the header or in the cell before them
abbrev pub many_from : Order → (ℕ → List ℕ → CellAnswer) → Count → List ℕ → CellAnswer
many_from o read (Fixed n) bytes = read n bytes
many_from o read Star bytes = counted_from o read bytes

-- The cell of this kind and count at the front. For a kind that has one value the count is not looked at.
abbrev pub cell_from : Order → Kind → Count → List ℕ → CellAnswer
cell_from o kinds.T count bytes = many_from o text_from count bytes
cell_from o kinds.L count bytes = many_from o text_from count bytes
cell_from o kinds.M count bytes = many_from o text_from count bytes
cell_from o kinds.N count bytes = many_from o text_from count bytes
cell_from o kinds.F count bytes = sized 4 (Word4Of (number_of o w32 bytes)) bytes
cell_from o kinds.R count bytes = sized 8 (Word8Of (number_of o w64 bytes)) bytes
cell_from o kinds.S count bytes = sized 2 (NumberOf (cast_signed w16 (number_of o w16 bytes))) bytes
cell_from o kinds.I count bytes = sized 4 (NumberOf (cast_signed w32 (number_of o w32 bytes))) bytes
cell_from o kinds.D count bytes = sized date_bytes (DateOf (take date_bytes bytes)) bytes
cell_from o kinds.X count bytes = Ok (Nothing, 0)
cell_from o kinds.K count bytes = triplet_from o bytes
cell_from o kinds.C count bytes = many_from o (tuples_from o Four Pair) count bytes
cell_from o kinds.B count bytes = many_from o (tuples_from o Eight Pair) count bytes
cell_from o kinds.Z count bytes = many_from o (tuples_from o Four Triple) count bytes
cell_from o kinds.Y count bytes = many_from o (tuples_from o Eight Triple) count bytes

-- A call answered for the cell that begins at `at`: what it says and the offset past it, or the fault there.
abbrev pub ReadsCell : ℕ → Result (Cell × ℕ) Place → CellAnswer → Type 0
ReadsCell at (Ok r) read = (at ≤ r.1) × (read ≡ Ok (view r.0, r.1 - at))
ReadsCell at (Err p) read = (read ≡ Err p.code) × (p ≡ fault at p.code)
