-- What frames the items of a header text: the length number, the mark of the order, and what may follow the columns
-- (MIL-STD-2407, 5.4, table header).
use Rattle.std.specs.Prelude.{ℕ, ◌||◌, Bool, nat_eq, List, ◌==◌, codes as text}
use Rattle.std.specs.List.{starts_with}
use Rattle.vpf_head.specs.Bytes.{space, carriage_return, line_feed}

-- the bytes of the length number
abbrev pub number_bytes : ℕ
number_bytes = 4

-- the mark of the order with the least significant byte first
abbrev pub little_mark : List ℕ
little_mark = text "L;"

-- the mark of the order with the most significant byte first
abbrev pub big_mark : List ℕ
big_mark = text "M;"

-- a text begins with a mark
abbrev pub has_mark : List ℕ → Bool
has_mark text = starts_with nat_eq text little_mark || starts_with nat_eq text big_mark

-- what may follow the columns
abbrev pub is_blank : ℕ → Bool
is_blank b = b == space || b == carriage_return || b == line_feed
