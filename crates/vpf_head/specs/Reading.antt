-- Reading a header from left to right, up to the first fault.
use Rattle.std.specs.Prelude.{ℕ, zero, suc, ◌+◌, Bool, not, nat_eq, List, [], ◌∷◌, ◌++◌, length, drop, take, Option, Some, None, is_some, Result, Ok, Err, nat_lt, ◌==◌, if◌then◌else◌, slice_get, position}
use Rattle.std.specs.List.{list_any, starts_with}
use Rattle.std.specs.Int.{w32}
use Rattle.vpf_base.specs.Limits.{longest_text, most_columns}
use Rattle.vpf_base.specs.Results.{◌>>=◌}
use Rattle.vpf_base.specs.declared.orders.Order.{Order}
use Rattle.vpf_base.specs.declared.orders.Order.TheVariants.{Little, Big}
use Rattle.vpf_triplet.specs.declared.kinds.Kind.{Kind}
use Rattle.vpf_triplet.specs.declared.kinds.Count.{Count}
use Rattle.vpf_triplet.specs.declared.places.Place.{Place}
use Rattle.vpf_triplet.specs.declared.places.Code.{Code}
use Rattle.vpf_triplet.specs.declared.places.Code.TheVariants as codes
use Rattle.vpf_triplet.specs.Kinds.{allows, kind_of}
use Rattle.vpf_base.specs.Numbers.{number_of}
use Rattle.vpf_triplet.specs.Places.{fault}
use Rattle.vpf_head.specs.declared.columns.Key.{Key}
use Rattle.vpf_head.specs.declared.items.Form.TheVariants.{Heading, Name, Field, Last}
use Rattle.vpf_head.specs.Bytes.{semicolon, colon}
use Rattle.vpf_head.specs.Head.{Head, Col, place_of, holds_data}
use Rattle.vpf_head.specs.Fields.{key_of, count_in, present}
use Rattle.vpf_head.specs.Items.{text_at, name_at}
use Rattle.vpf_head.specs.Texts.{number_bytes, big_mark, has_mark, is_blank}

-- a value that is there, or the code at this offset
abbrev pub wanted : {X : Type 0} → ℕ → Code → Option X → Result X Place
wanted at code None = Err (fault at code)
wanted at code (Some x) = Ok x

-- a count that the kind allows
abbrev pub allowed : ℕ → Kind → Option Count → Result Count Place
allowed at kind None = Err (fault at codes.Count)
allowed at kind (Some count) = if allows kind count then Ok count else Err (fault at codes.Count)

-- the name of a further column, after these
unfoldable pub fresh_name_at : List Col → List ℕ → ℕ → Result (List ℕ × ℕ) Place
fresh_name_at before text at = do
  item ← name_at Name text at
  if length item.text == 0 then Err (fault at codes.NameEmpty) else if is_some (place_of item.text before) then Err (fault at codes.NameRepeat) else Ok (item.text, item.past)

-- the kind, and the offset past it
unfoldable pub kind_at : List ℕ → ℕ → Result (Kind × ℕ) Place
kind_at text at = do
  item ← text_at Field text at
  kind ← wanted at codes.Kind (kind_of item.text)
  Ok (kind, item.past)

-- the count of a column of this kind
unfoldable pub count_at : Kind → List ℕ → ℕ → Result (Count × ℕ) Place
count_at kind text at = do
  item ← text_at Field text at
  count ← allowed at kind (count_in item.text)
  Ok (count, item.past)

-- the key
unfoldable pub key_at : List ℕ → ℕ → Result (Key × ℕ) Place
key_at text at = do
  item ← text_at Field text at
  key ← wanted at codes.Key (key_of item.text)
  Ok (key, item.past)

-- the byte `:` that ends a column, where this byte stands
abbrev pub colon_by : ℕ → Option ℕ → Result ℕ Place
colon_by at None = Err (fault at codes.ItemEnd)
colon_by at (Some b) = if b == colon then Ok (at + 1) else Err (fault at codes.ItemSeparator)

-- the end of a column after an item that this byte ended: the column's own `:`, or a comma and its `:`
abbrev pub closed_at : List ℕ → ℕ → ℕ → Result ℕ Place
closed_at text stop at = if stop == colon then Ok at else colon_by at (slice_get text at)

-- the narrative and the end of the column
unfoldable pub narrative_at : List ℕ → ℕ → Result (Option (List ℕ) × ℕ) Place
narrative_at text at = do
  item ← name_at Last text at
  past ← closed_at text item.stop item.past
  Ok (present item.text, past)

-- the end of a column after its thematic index, which this byte ended: a comma begins a narrative
abbrev pub rest_at : List ℕ → ℕ → ℕ → Result (Option (List ℕ) × ℕ) Place
rest_at text stop at = if stop == colon then Ok (None, at) else narrative_at text at

-- the definition of a further column, after these
unfoldable pub column_at : List Col → List ℕ → ℕ → Result (Col × ℕ) Place
column_at before text at = do
  name ← fresh_name_at before text at
  kind ← kind_at text name.1
  count ← count_at kind.0 text kind.1
  key ← key_at text count.1
  description ← text_at Field text key.1
  values ← name_at Field text description.past
  theme ← name_at Last text values.past
  narrative ← rest_at text theme.stop theme.past
  Ok (record { name = name.0; kind = kind.0; count = count.0; key = key.0; description = description.text; values = present values.text; theme = present theme.text; narrative = narrative.0 }, narrative.1)

-- the `;` that closes the columns stands here
abbrev pub closes : List ℕ → ℕ → Bool
closes text at = starts_with nat_eq (drop at text) (semicolon ∷ [])

-- The columns up to the `;`, after those before, where so many more may come. The offset is that of the `;`.
unfoldable pub columns_at : ℕ → List Col → List ℕ → ℕ → Result (List Col × ℕ) Place
columns_at zero before text at = if closes text at then Ok (before, at) else Err (fault at (codes.LimitColumns (most_columns + 1)))
columns_at (suc room) before text at = if closes text at then Ok (before, at) else column_at before text at >>= λ column. columns_at room (before ++ column.0 ∷ []) text column.1

-- the end of the text, where this is the first byte after the columns that isn't blank
abbrev pub end_by : List ℕ → ℕ → Option ℕ → Result ℕ Place
end_by text at None = Ok (length text)
end_by text at (Some n) = Err (fault (at + n) codes.AfterHeader)

-- the end of the text, where only blanks stand before it
abbrev pub end_at : List ℕ → ℕ → Result ℕ Place
end_at text at = end_by text at (position (λ b. not (is_blank b)) (drop at text))

-- the end of the text after these columns, whose `;` stands here
abbrev pub close_at : List Col → List ℕ → ℕ → Result ℕ Place
close_at columns text at = if list_any holds_data columns then end_at text (at + 1) else Err (fault at codes.NoData)

-- the offset of the table's description
abbrev pub after_mark : List ℕ → ℕ
after_mark text = if has_mark (drop number_bytes text) then number_bytes + length big_mark else number_bytes

-- the order of a file's numbers
abbrev pub order_of : List ℕ → Order
order_of bytes = if starts_with nat_eq (drop number_bytes bytes) big_mark then Big else Little

-- the header whose text begins after the length number and ends where the list ends, and that end
unfoldable pub head_at : Order → List ℕ → Result (Head × ℕ) Place
head_at order text = do
  description ← text_at Heading text (after_mark text)
  narrative ← name_at Heading text description.past
  columns ← columns_at most_columns [] text narrative.past
  past ← close_at columns.0 text columns.1
  Ok (record { order = order; description = description.text; narrative = present narrative.text; columns = columns.0 }, past)

-- the header of a file and the offset of its first row, or its first fault
unfoldable pub header_of : List ℕ → Result (Head × ℕ) Place
header_of bytes =
    let order = order_of bytes in
    let n = number_of order w32 bytes in
    if nat_lt (length bytes) number_bytes then Err (fault 0 codes.NumberCut)
    else if nat_lt longest_text n then Err (fault 0 (codes.LimitHeader n))
    else if nat_lt (length bytes) (number_bytes + n) then Err (fault number_bytes codes.HeaderCut)
    else head_at order (take (number_bytes + n) bytes)
