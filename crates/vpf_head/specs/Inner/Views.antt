-- What contracts see of the types of the code.
use Rattle.std.specs.Prelude.{◌≡◌, ℕ, List, [], ◌∷◌, Option, map, Bool}
use Rattle.std.specs.Option.{option_copied}
use Rattle.indexmap.specs.IndexMap.{values}
use Rattle.vpf_base.specs.declared.orders.Order.{Order}
use Rattle.vpf_head.specs.declared.names.ColumnName.{ColumnName}
use Rattle.vpf_head.specs.declared.columns.Column.{Column}
use Rattle.vpf_head.specs.declared.items.Item.{Item as LentItem}
use Rattle.vpf_head.specs.declared.headers.Header.TheInside.{Inside}
use Rattle.vpf_head.specs.declared.making.Parts.{Parts}
use Rattle.vpf_head.specs.Folding.{same_name}
use Rattle.vpf_head.specs.Head.{Head, Col}
use Rattle.vpf_head.specs.Items.{Item}
use Rattle.vpf_head.specs.Inner.Soundness.{IsSound}

-- an item of the text
abbrev pub item : LentItem → Item
item i = record { text = i.text.now; stop = i.stop; past = i.past }

-- a column of the code, its texts as lists
abbrev pub col : Column → Col
col c = record { name = c.name.now; kind = c.kind; count = c.count; key = c.key; description = c.description.now; values = option_copied c.values; theme = option_copied c.theme; narrative = option_copied c.narrative }

-- the parts of a header
abbrev pub header_parts : Inside → Head
header_parts h = record { order = h.order; description = h.description.now; narrative = option_copied h.narrative; columns = map col (values h.columns) }

-- the header of these parts
abbrev pub head_of_parts : Order → List ℕ → Option (List ℕ) → List Column → Head
head_of_parts order description narrative columns = record { order = order; description = description; narrative = narrative; columns = map col columns }

-- the header of the parts that are given
abbrev pub head_given : Parts → Head
head_given parts = head_of_parts parts.order parts.description.now (option_copied parts.narrative) parts.columns.now

-- each column stands under its own name
abbrev pub AreNamed : List (ColumnName × Column) → Type 0
AreNamed [] = Unit {0}
AreNamed (e ∷ es) = (e.0.name.now ≡ e.1.name.now) × AreNamed es

-- what is true of the fields of every header: it was read, so it is sound
pub record IsHeaderInside (h : Inside) : Type 0 where
  pub named : AreNamed h.columns.entries
  pub sound : IsSound (header_parts h)

-- the keys of a map of columns, compared as names
abbrev pub key_eq : ColumnName → ColumnName → Bool
key_eq a b = same_name a.name.now b.name.now
