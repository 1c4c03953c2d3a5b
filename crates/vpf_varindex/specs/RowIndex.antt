-- How variable-length indexes are spelled (MIL-STD-2407, 5.4, variable-length index file), apart from reading.
use Rattle.std.specs.Prelude.{◌≡◌, ℕ, ◌<◌, ◌^◌, All, List, [], ◌∷◌, ◌++◌, length}
use Rattle.std.specs.Int.{w32}
use Rattle.vpf_base.specs.declared.orders.Order.{Order}
use Rattle.vpf_base.specs.Numbers.{number}

-- an entry for each row: its offset and its length, of 4 bytes each
unfoldable pub entries_text : Order → List (ℕ × ℕ) → List ℕ
entries_text o [] = []
entries_text o (s ∷ ss) = number o w32 s.0 ++ (number o w32 s.1 ++ entries_text o ss)

-- the index of rows with these offsets and lengths: how many they are, a second number, and their entries
abbrev pub row_index : Order → ℕ → List (ℕ × ℕ) → List ℕ
row_index o second spans = number o w32 (length spans) ++ (number o w32 second ++ entries_text o spans)

-- an offset and a length that an entry holds
abbrev pub HasSpan : ℕ × ℕ → Type 0
HasSpan s = (s.0 < 2 ^ 32) × (s.1 < 2 ^ 32)

-- The bytes are the index of rows with these offsets and lengths: one spelling for each second number.
pub record IsRowIndex (o : Order) (spans : List (ℕ × ℕ)) (bytes : List ℕ) : Type 0 where
  pub second : ℕ
  pub holds_second : second < 2 ^ 32
  pub holds_count : length spans < 2 ^ 32
  pub holds_spans : All HasSpan spans
  pub spelled : bytes ≡ row_index o second spans
