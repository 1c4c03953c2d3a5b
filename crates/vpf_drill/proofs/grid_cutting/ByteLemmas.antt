-- Canonical tables are bytes.
use Rattle.std.proofs.Common.{◌≡◌, ℕ, zero, suc, ◌<◌, Bool, true, List, [], ◌∷◌, ◌++◌, length, arith}
use Rattle.std.specs.Prelude.{nat_lt}
use Rattle.std.specs.Int.{Width, byte_at, byte_len, bytes_low_first, w32, cast_unsigned}
use Rattle.std.specs.List.{AllByRecursion, list_all}
use Rattle.std.proofs.lemmas.Bool.Decides.{nat_tests}
use Rattle.vpf_base.specs.Bytes.{IsBytes}
use Rattle.vpf_base.proofs.Booleans.{both}
use Rattle.vpf_base.specs.declared.orders.Order.{Order}
use Rattle.vpf_base.specs.declared.orders.Order.TheVariants.{Big, Little}
use Rattle.vpf_base.specs.Numbers.{number}
use Rattle.vpf_value.specs.Canonical.{spelled, spelled_number}
use Rattle.vpf_value.specs.Values.{Value, TextOf, Word4Of, Word8Of, NumberOf, DateOf, Nothing, TripletOf, WordsOf}
use Rattle.vpf_head.specs.Canonical.{canonical_text}
use Rattle.vpf_head.specs.Head.{Col}
use Rattle.vpf_table.specs.Canonical.{canonical_table, row_text, rows_text}
use Rattle.vpf_table.specs.Grid.{Grid, Row}

-- each is a byte
abbrev pub AreBytes : List ℕ → Type 0
AreBytes bs = AllByRecursion (λ b. b < 256) bs

pub are_bytes : (bs : List ℕ) → AreBytes bs → IsBytes bs
are_bytes [] all i = omega arith
are_bytes (b ∷ bs) all zero = all.0
are_bytes (b ∷ bs) all (suc i) = are_bytes bs all.1 i

pub joined_bytes : (xs ys : List ℕ) → AreBytes xs → AreBytes ys → AreBytes (xs ++ ys)
joined_bytes [] ys none all = all
joined_bytes (x ∷ xs) ys some all = (some.0, joined_bytes xs ys some.1 all)

-- what passes a test of bytes
abbrev pub is_byte : ℕ → Bool
is_byte b = nat_lt b 256

pub tested_bytes : (bs : List ℕ) → list_all is_byte bs ≡ true → AreBytes bs
tested_bytes [] h = tt
tested_bytes (b ∷ bs) h = let p = both (is_byte b) (list_all is_byte bs) h in (let low : nat_lt b 256 ≡ true = p.0 in grind (arith, nat_tests), tested_bytes bs p.1)

-- the bytes of a number
low_byte : (i n : ℕ) → byte_at i n < 256
low_byte zero n = omega arith
low_byte (suc i) n = omega arith

low_bytes : (i k n : ℕ) → AreBytes (bytes_low_first i k n)
low_bytes i zero n = tt
low_bytes i (suc k) n = (low_byte i n, low_bytes (suc i) k n)

pub number_bytes : (w : Width) (n : ℕ) → AreBytes (number Little w n)
number_bytes w n = low_bytes 0 (byte_len w) n

-- a cell of a column of numbers, whatever it holds
pub cell_bytes : (w : Width) (v : Value) → AreBytes (spelled_number Little w v)
cell_bytes w (NumberOf z) = number_bytes w (cast_unsigned w z)
cell_bytes w (TextOf text) = tt
cell_bytes w (Word4Of word) = tt
cell_bytes w (Word8Of word) = tt
cell_bytes w (DateOf text) = tt
cell_bytes w Nothing = tt
cell_bytes w (TripletOf t) = tt
cell_bytes w (WordsOf width words) = tt

-- a column whose cells are bytes, whatever they hold
abbrev pub HasBytes : Col → Type 0
HasBytes c = (v : Value) → AreBytes (spelled Little c.kind c.count v)

row_bytes : (columns : List Col) (row : Row) → AllByRecursion HasBytes columns → AreBytes (row_text Little columns row)
unfolding row_text
row_bytes [] row all = tt
row_bytes (c ∷ columns) [] all = tt
row_bytes (c ∷ columns) (v ∷ row) all =
    joined_bytes (spelled Little c.kind c.count v) (row_text Little columns row) (all.0 v) (row_bytes columns row all.1)

each_bytes : (columns : List Col) (rows : List Row) → AllByRecursion HasBytes columns → AllByRecursion (λ row. AreBytes (row_text Little columns row)) rows
each_bytes columns [] all = tt
each_bytes columns (row ∷ rows) all = (row_bytes columns row all, each_bytes columns rows all)

rows_bytes : (columns : List Col) (rows : List Row) → AllByRecursion (λ row. AreBytes (row_text Little columns row)) rows → AreBytes (rows_text Little columns rows)
unfolding rows_text
rows_bytes columns [] all = tt
rows_bytes columns (row ∷ rows) all =
    joined_bytes (row_text Little columns row) (rows_text Little columns rows) all.0 (rows_bytes columns rows all.1)

-- a header text behind its length, and rows behind both
parts_bytes : (o : Order) (text : List ℕ) (columns : List Col) (rows : List Row) → o ≡ Little → AreBytes text
    → AllByRecursion (λ row. AreBytes (row_text Little columns row)) rows
    → AreBytes ((number o w32 (length text) ++ text) ++ rows_text o columns rows)
parts_bytes Little text columns rows order own all =
    joined_bytes (number Little w32 (length text) ++ text) (rows_text Little columns rows)
    (joined_bytes (number Little w32 (length text)) text (number_bytes w32 (length text)) own) (rows_bytes columns rows all)
parts_bytes Big text columns rows order own all = absurd cc

-- a table whose numbers stand with the least byte first
pub table_bytes : (g : Grid) → g.head.order ≡ Little → AreBytes (canonical_text g.head)
    → AllByRecursion (λ row. AreBytes (row_text Little g.head.columns row)) g.rows → IsBytes (canonical_table g)
table_bytes g order text all =
    are_bytes (canonical_table g) (parts_bytes g.head.order (canonical_text g.head) g.head.columns g.rows order text all)

-- the same where all its columns are of numbers
pub numbers_bytes : (g : Grid) → g.head.order ≡ Little → AreBytes (canonical_text g.head) → AllByRecursion HasBytes g.head.columns → IsBytes (canonical_table g)
numbers_bytes g order text all = table_bytes g order text (each_bytes g.head.columns g.rows all)
