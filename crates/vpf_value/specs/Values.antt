-- What a cell says, apart from where it lies in the file.
use Rattle.std.specs.Prelude.{ℕ, ℤ, List}
use Rattle.vpf_triplet.specs.declared.triplets.Triplet.{Triplet}
use Rattle.vpf_value.specs.declared.coords.WordWidth.{WordWidth}
use Rattle.vpf_value.specs.declared.cells.Cell.{Cell}
use Rattle.vpf_value.specs.declared.cells.Cell.TheVariants as cells
use Rattle.vpf_value.specs.Inner.Coordinates.{words, words_width}

-- how many bytes a date has
abbrev pub date_bytes : ℕ
date_bytes = 20

-- the value of a cell
pub data Value : Type 0 where
  -- the bytes of a text
  TextOf : List ℕ → Value
  -- a word of 4 bytes
  Word4Of : ℕ → Value
  -- a word of 8 bytes
  Word8Of : ℕ → Value
  -- a signed number, of 2 bytes or 4
  NumberOf : ℤ → Value
  -- the bytes of a date
  DateOf : List ℕ → Value
  -- what a field that holds nothing says
  Nothing : Value
  -- a triplet id
  TripletOf : Triplet → Value
  -- words and their width, without the tuples that they make
  WordsOf : WordWidth → List ℕ → Value

-- what a cell says
abbrev pub view : Cell → Value
view (cells.Text text) = TextOf text.now
view (cells.Word4 n) = Word4Of n
view (cells.Word8 n) = Word8Of n
view (cells.Short n) = NumberOf n
view (cells.Long n) = NumberOf n
view (cells.Date text) = DateOf text.now
view cells.Null = Nothing
view (cells.Triplet t) = TripletOf t
view (cells.Coords c) = WordsOf (words_width c) (words c)
