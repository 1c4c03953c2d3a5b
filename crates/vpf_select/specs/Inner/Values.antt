-- What contracts see of a value.
use Rattle.vpf_value.specs.Values.{Value, TextOf, Word4Of, Word8Of, NumberOf, DateOf}
use Rattle.vpf_select.specs.declared.value.Owned.{Owned}
use Rattle.vpf_select.specs.declared.value.Owned.TheVariants as owned
use Rattle.vpf_select.specs.declared.value.Value.TheInside.{Inside}

-- what a cell says
abbrev pub CellValue : Type 0
CellValue = Value

-- what the bytes or the number say
abbrev pub said : Owned → Value
said (owned.Text text) = TextOf text.items
said (owned.Word4 word) = Word4Of word
said (owned.Word8 word) = Word8Of word
said (owned.Number number) = NumberOf number
said (owned.Date text) = DateOf text.items

abbrev pub value_view : Inside → Value
value_view v = said v.owned
