-- Features that are joined to primitives by these' numbers: a primitive may have copies in several tiles, each with a number of its own, where a
-- feature has place for one (MIL-STD-2407, 5.2.3, feature classes).
use Rattle.std.specs.Prelude.{ℕ, suc, Bool, ◌&&◌, ◌||◌, List, Option, codes, is_some, position}
use Rattle.std.specs.Option.{option_map}
use Rattle.vpf_feature_files.specs.SchemaRows.Items.{is_feature_table, primitive_named, same_item}
use Rattle.vpf_feature_files.specs.SchemaRows.Joins.{SchemaJoin}

-- the first is a table of features and the second one of primitives, whose key is their number
abbrev pub by_number : (features primitives key : List ℕ) → Bool
by_number features primitives key = is_feature_table features && (is_some (primitive_named primitives) && same_item key (codes "id"))

-- the row joins so, either way round
abbrev pub joins_by_number : SchemaJoin → Bool
joins_by_number r = by_number r.table1 r.table2 r.key2 || by_number r.table2 r.table1 r.key1

-- the number, counted from 1, of the first row that joins so
abbrev pub numbered_row : List SchemaJoin → Option ℕ
numbered_row rows = option_map suc (position joins_by_number rows)
