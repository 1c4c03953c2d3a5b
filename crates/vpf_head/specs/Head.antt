-- What a header says (MIL-STD-2407, 5.4, table header).
use Rattle.std.specs.Prelude.{ℕ, zero, suc, List, [], ◌∷◌, Option, Bool, true, false, position, map, ◌||◌}
use Rattle.std.specs.List.{list_any}
use Rattle.vpf_base.specs.declared.orders.Order.{Order}
use Rattle.vpf_triplet.specs.declared.kinds.Kind.{Kind}
use Rattle.vpf_triplet.specs.declared.kinds.Kind.TheVariants as kinds
use Rattle.vpf_triplet.specs.declared.kinds.Count.{Count}
use Rattle.vpf_triplet.specs.declared.kinds.Count.TheVariants.{Fixed, Star}
use Rattle.vpf_head.specs.declared.columns.Key.{Key}
use Rattle.vpf_head.specs.Folding.{same_name}

-- a column: its name, what its cells hold, its key, its text, and the names of the files that it refers to
pub record Col : Type 0 where
  pub name : List ℕ
  pub kind : Kind
  pub count : Count
  pub key : Key
  pub description : List ℕ
  pub values : Option (List ℕ)
  pub theme : Option (List ℕ)
  pub narrative : Option (List ℕ)

-- a header: the order of the numbers, the table's text, the name of its narrative table, and its columns
pub record Head : Type 0 where
  pub order : Order
  pub description : List ℕ
  pub narrative : Option (List ℕ)
  pub columns : List Col

-- the names of the columns
abbrev pub names : List Col → List (List ℕ)
names columns = map (λ c. c.name) columns

-- where the column of this name stands
abbrev pub place_of : List ℕ → List Col → Option ℕ
place_of name columns = position (same_name name) (names columns)

-- a cell holds something: every kind but X
abbrev pub is_data : Kind → Bool
is_data kinds.X = false
is_data kind = true

-- the column's cells hold something
abbrev pub holds_data : Col → Bool
holds_data column = is_data column.kind

-- the kind of triplet ids, each of which says how many bytes it has
abbrev pub is_triplet : Kind → Bool
is_triplet kinds.K = true
is_triplet kind = false

-- each row says how many values its cell holds
abbrev pub is_star : Count → Bool
is_star Star = true
is_star (Fixed n) = false

-- the column's cells may have other lengths in other rows
abbrev pub varies : Col → Bool
varies column = is_triplet column.kind || is_star column.count

-- the rows of a table with these columns may have other lengths
abbrev pub varies_in : List Col → Bool
varies_in columns = list_any varies columns

-- a kind whose cells can name a row: a number, or a triplet id
abbrev pub names_rows : Kind → Bool
names_rows kinds.S = true
names_rows kinds.I = true
names_rows kinds.K = true
names_rows kind = false

-- the columns, where the one at this position, from 0, holds cells of this kind
abbrev pub with_kind : ℕ → Kind → List Col → List Col
with_kind c kind [] = []
with_kind zero kind (column ∷ columns) = record column { kind = kind } ∷ columns
with_kind (suc c) kind (column ∷ columns) = column ∷ with_kind c kind columns
