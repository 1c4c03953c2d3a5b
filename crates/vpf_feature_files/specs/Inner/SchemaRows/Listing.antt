-- The feature tables that rows name, as they are listed one after another.
use Rattle.std.specs.Prelude.{ℕ, List, [], ◌∷◌, ◌++◌, if◌then◌else◌}
use Rattle.vpf_feature_files.specs.SchemaRows.Items.{is_feature_table}
use Rattle.vpf_feature_files.specs.SchemaRows.Joins.{new_item}
use Rattle.vpf_feature_files.specs.declared.schema_rows.items.ItemName.{ItemName}

-- the bytes of an item of the code
abbrev pub item_text : ItemName → List ℕ
item_text item = item.text.now

-- the items that came before, with this one, where it names a table of features
abbrev pub noted : (before : List (List ℕ)) → List ℕ → List (List ℕ)
noted before item = if is_feature_table item then before ++ item ∷ [] else before

-- what is listed for an item: itself, where it is the first that names its table of features
abbrev pub listed_for : (before : List (List ℕ)) → List ℕ → List (List ℕ)
listed_for before item = if is_feature_table item then new_item before item else []
