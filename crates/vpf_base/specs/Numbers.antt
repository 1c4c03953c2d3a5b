-- The numbers of a file in its byte order (MIL-STD-2407, 5.4, table header: least or most significant byte first).
use Rattle.std.specs.Prelude.{ℕ, List, codes}
use Rattle.std.specs.Int.{Width, to_le_bytes, to_be_bytes, from_le_bytes, from_be_bytes}
use Rattle.vpf_base.specs.declared.orders.Order.{Order}
use Rattle.vpf_base.specs.declared.orders.Order.TheVariants.{Little, Big}

-- the unsigned number of this width that the first bytes spell
abbrev pub number_of : Order → Width → List ℕ → ℕ
number_of Little w bytes = from_le_bytes w bytes
number_of Big w bytes = from_be_bytes w bytes

-- the spelling of an unsigned number
abbrev pub number : Order → Width → ℕ → List ℕ
number Little w n = to_le_bytes w n
number Big w n = to_be_bytes w n

-- the letter of an order in a header
abbrev pub order_text : Order → List ℕ
order_text Little = codes "L"
order_text Big = codes "M"
