-- The feature tables that rows name, as far as they are not listed yet.
use Rattle.std.proofs.Common.{◌≡◌, ℕ, ◌+◌, ◌<◌, List, ◌∷◌, ◌++◌, map, filter, drop, get_or, length, add-one}
use Rattle.std.proofs.Math.Seq.{drop-cons}
use Rattle.std.specs.List.{flat_map}
use Rattle.vpf_feature_files.specs.SchemaRows.Items.{is_feature_table}
use Rattle.vpf_feature_files.specs.SchemaRows.Joins.{join_of, once_after, tables_in}
use Rattle.vpf_feature_files.specs.Inner.SchemaRows.Listing.{item_text, listed_for, noted}
use Rattle.vpf_feature_files.specs.declared.schema_rows.rows.SchemaRow.{SchemaRow}
use Rattle.vpf_feature_files.proofs.schema_rows.ListLemmas.{item_left}

-- the feature tables that these rows name, with repeats
abbrev pub tables_left : List SchemaRow → List (List ℕ)
tables_left rows = filter is_feature_table (flat_map tables_in (map join_of rows))

-- one more row is seen to, its first table and then its second
pub row_left : (rows : List SchemaRow) (i : ℕ) (d : SchemaRow) (before between after listed first more whole : List (List ℕ)) → i < length rows
    → between ≡ noted before (item_text (get_or rows i d).table1) → first ≡ listed ++ listed_for before (item_text (get_or rows i d).table1)
    → after ≡ noted between (item_text (get_or rows i d).table2) → more ≡ first ++ listed_for between (item_text (get_or rows i d).table2)
    → listed ++ once_after before (tables_left (drop i rows)) ≡ whole → more ++ once_after after (tables_left (drop (i + 1) rows)) ≡ whole
row_left rows i d before between after listed first more whole h seen1 pushed1 seen2 pushed2 done =
    let row = get_or rows i d in
    let rest = flat_map tables_in (map join_of (drop (i + 1) rows)) in
    let steps : drop i rows ≡ row ∷ drop (i + 1) rows = rw (add-one, drop-cons rows i d) in
    item_left between after (item_text row.table2) rest first more whole seen2 pushed2
    (item_left before between (item_text row.table1) (item_text row.table2 ∷ rest) listed first whole seen1 pushed1 (rw steps at done))
