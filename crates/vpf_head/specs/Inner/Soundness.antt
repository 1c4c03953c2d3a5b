-- What is true of each header: a table can rely on its columns, and its canonical text is read again as it.
use Rattle.std.specs.Prelude.{◌≡◌, ℕ, ◌<◌, ◌≤◌, true, List, length, Option, Some}
use Rattle.std.specs.List.{list_any, IsDistinct, All}
use Rattle.vpf_base.specs.Limits.{most_values, longest_text, most_columns}
use Rattle.vpf_triplet.specs.declared.kinds.Count.{Count}
use Rattle.vpf_triplet.specs.declared.kinds.Count.TheVariants.{Fixed, Star}
use Rattle.vpf_triplet.specs.Kinds.{allows}
use Rattle.vpf_head.specs.declared.items.Form.{Form}
use Rattle.vpf_head.specs.declared.items.Form.TheVariants.{Heading, Name, Field, Last}
use Rattle.vpf_head.specs.Canonical.{name_text}
use Rattle.vpf_head.specs.Fields.{key_text, key_of, present}
use Rattle.vpf_head.specs.Folding.{same_name}
use Rattle.vpf_head.specs.Head.{Head, Col, names, holds_data}
use Rattle.vpf_head.specs.Spelling.{IsText, IsName}

-- a count from 1 to the most
abbrev pub IsInBounds : Count → Type 0
IsInBounds (Fixed n) = (1 ≤ n) × (n ≤ most_values)
IsInBounds Star = Unit {0}

-- the column's count is one that its kind allows
pub record IsCounted (c : Col) : Type 0 where
  pub bounds : IsInBounds c.count
  pub allowed : allows c.kind c.count ≡ true

-- a name that may be absent is spelled by its item, and read from it
pub record IsWritten (form : Form) (name : Option (List ℕ)) : Type 0 where
  pub spelled : IsName form (name_text name)
  pub back : present (name_text name) ≡ name

-- the parts of the column are spelled by their items, and read from them
pub record IsSpelled (c : Col) : Type 0 where
  pub name : IsName Name c.name
  pub some : 0 < length c.name
  pub key : key_of (key_text c.key) ≡ Some c.key
  pub description : IsText Field c.description
  pub short : length c.description ≤ longest_text
  pub values : IsWritten Field c.values
  pub theme : IsWritten Last c.theme
  pub narrative : IsWritten Last c.narrative

-- The columns have counts that their kinds allow and names that differ, there are not too many, and one holds data. Each part
-- is spelled by its item, and read from it.
pub record IsSound (h : Head) : Type 0 where
  pub description : IsText Heading h.description
  pub short : length h.description ≤ longest_text
  pub narrative : IsWritten Heading h.narrative
  pub items : All IsSpelled h.columns
  pub counts : All IsCounted h.columns
  pub distinct : IsDistinct same_name (names h.columns)
  pub few : length h.columns ≤ most_columns
  pub filled : list_any holds_data h.columns ≡ true
