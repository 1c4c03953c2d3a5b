-- Reading the items of a header text, one after another. Offsets count the file's bytes, and the text ends where the list ends.
use Rattle.std.specs.Prelude.{ℕ, ◌+◌, List, length, drop, take, Option, Some, None, Result, Ok, Err, nat_lt, if◌then◌else◌, position, slice_index}
use Rattle.vpf_base.specs.Limits.{longest_name}
use Rattle.vpf_base.specs.Results.{◌>>=◌}
use Rattle.vpf_triplet.specs.declared.places.Place.{Place}
use Rattle.vpf_triplet.specs.declared.places.Code.TheVariants as codes
use Rattle.vpf_triplet.specs.Places.{fault}
use Rattle.vpf_head.specs.declared.items.Form.{Form}
use Rattle.vpf_head.specs.Forms.{is_stop, is_separator, holds_control}

-- an item: its text, the byte that ended it, and the offset past that byte
pub record Item : Type 0 where
  pub text : List ℕ
  pub stop : ℕ
  pub past : ℕ

-- the item at `at` that is ended so many bytes later
abbrev pub item_ended : Form → List ℕ → ℕ → Option ℕ → Result Item Place
item_ended form rest at None = Err (fault at codes.ItemEnd)
item_ended form rest at (Some n) =
    if is_separator form (slice_index rest n) then Ok (record { text = take n rest; stop = slice_index rest n; past = at + n + 1 })
    else Err (fault at codes.ItemSeparator)

-- the item that begins at `at`
unfoldable pub item_at : Form → List ℕ → ℕ → Result Item Place
item_at form text at = item_ended form (drop at text) at (position (is_stop form) (drop at text))

-- an item that is a text
unfoldable pub text_at : Form → List ℕ → ℕ → Result Item Place
text_at form text at = do
  item ← item_at form text at
  if holds_control item.text then Err (fault at codes.ItemByte) else Ok item

-- an item that is a name
unfoldable pub name_at : Form → List ℕ → ℕ → Result Item Place
name_at form text at = do
  item ← item_at form text at
  if nat_lt longest_name (length item.text) then Err (fault at (codes.LimitName (length item.text))) else if holds_control item.text then Err (fault at codes.ItemByte) else Ok item
