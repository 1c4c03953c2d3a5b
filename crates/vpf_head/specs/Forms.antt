-- The forms of the items of a header text: which bytes end them, and which they may hold (MIL-STD-2407, 5.4, table header).
use Rattle.std.specs.Prelude.{ℕ, ◌||◌, Bool, List, ◌==◌}
use Rattle.std.specs.Char.{is_ascii_control}
use Rattle.std.specs.List.{list_any}
use Rattle.vpf_head.specs.declared.items.Form.{Form}
use Rattle.vpf_head.specs.declared.items.Form.TheVariants.{Heading, Name, Field, Last}
use Rattle.vpf_head.specs.Bytes.{semicolon, comma, colon, equals}

-- the bytes that end an item of this form
abbrev pub is_stop : Form → ℕ → Bool
is_stop Heading b = b == semicolon
is_stop Name b = b == equals || b == comma || b == colon || b == semicolon
is_stop Field b = b == comma || b == colon || b == semicolon
is_stop Last b = b == comma || b == colon || b == semicolon

-- those of them that may end it
abbrev pub is_separator : Form → ℕ → Bool
is_separator Heading b = b == semicolon
is_separator Name b = b == equals
is_separator Field b = b == comma
is_separator Last b = b == comma || b == colon

-- a control byte stands in the item
abbrev pub holds_control : List ℕ → Bool
holds_control item = list_any is_ascii_control item
