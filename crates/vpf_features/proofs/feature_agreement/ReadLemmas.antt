-- The thematic indexes of features that were read are such that files were read as.
use Rattle.std.proofs.Common.{◌≡◌, ℕ, List, [], ◌∷◌, ◌++◌, Option, None, Some, Ok, Err, refl, ap, subst}
use Rattle.std.specs.Prelude.{IfSome, Result, option_and_then}
use Rattle.vpf_source.specs.Files.{Files}
use Rattle.vpf_base.specs.declared.orders.Order.{Order}
use Rattle.vpf_triplet.specs.declared.places.Place.{Place}
use Rattle.vpf_head.specs.Head.{Col}
use Rattle.vpf_theme.specs.Entries.{Theme}
use Rattle.vpf_theme.specs.Reading.{theme_of}
use Rattle.vpf_library_files.specs.Loading.Loading.{LoadedTable, read_optional, read_optional_table, within}
use Rattle.vpf_library_files.specs.Loading.Loads.{maybe}
use Rattle.vpf_feature_files.specs.SchemaRows.Items.{own_file}
use Rattle.vpf_feature_files.specs.SchemaRows.Joins.{feature_items}
use Rattle.vpf_features.specs.Reading.{index_in, read_feature_tables, read_index, read_indexes, read_named_index, read_named_table, read_schema, read_schema_table, schema_name, theme_graded, with_indexes}
use Rattle.vpf_features.specs.Schemas.{FeatureTable, Index, Schema, joins_of}
use Rattle.vpf_features.specs.Inner.FeatureAgreement.StepLaws.{both_ok, no_stop, value_same}
use Rattle.vpf_features.specs.FeatureAgreement.Agreeing.{AreReadTables, HasReadIndexes, IsReadIndex}

-- ---- an index

graded_index : (folder file : List ℕ) (order : Order) (bytes : List ℕ) (theme : Result Theme Place) (n : ℕ) (o : Option Index) (k : ℕ) → theme_of order bytes ≡ theme
    → theme_graded folder file theme n ≡ (Ok o, k) → IfSome o (IsReadIndex order)
graded_index folder file order bytes (Ok theme) n o k same e =
    let is : Some (record { file = file; theme = theme }) ≡ o = value_same _ o n k e in
    subst (λ (x : Option Index). IfSome x (IsReadIndex order)) is (record { bytes = bytes; opened = same })
graded_index folder file order bytes (Err place) n o k same e = absurd (no_stop _ o n k _ refl e)

index_in_file : (folder file : List ℕ) (order : Order) (bytes : Option (List ℕ)) (n : ℕ) (o : Option Index) (k : ℕ) → index_in folder file order bytes n ≡ (Ok o, k)
    → IfSome o (IsReadIndex order)
index_in_file folder file order None n o k e = let is : None ≡ o = value_same None o n k e in subst (λ (x : Option Index). IfSome x (IsReadIndex order)) is tt
index_in_file folder file order (Some bytes) n o k e = graded_index folder file order bytes (theme_of order bytes) n o k refl e

named_index : (files : Files) (folder : List ℕ) (order : Order) (name : Option (List ℕ)) (n : ℕ) (o : Option Index) (k : ℕ)
    → read_named_index files folder order name n ≡ (Ok o, k) → IfSome o (IsReadIndex order)
named_index files folder order None n o k e = let is : None ≡ o = value_same None o n k e in subst (λ (x : Option Index). IfSome x (IsReadIndex order)) is tt
named_index files folder order (Some file) n o k e =
    let b = both_ok (read_optional files (within folder file) n) (index_in folder file order) o k e in
    index_in_file folder file order b.value b.count o k b.then

-- those of all columns
indexes_read : (files : Files) (folder : List ℕ) (order : Order) (columns : List Col) (n : ℕ) (indexes : List (Option Index)) (k : ℕ)
    → read_indexes files folder order columns n ≡ (Ok indexes, k) → HasReadIndexes order indexes
indexes_read files folder order [] n indexes k e = let is : [] ≡ indexes = value_same [] indexes n k e in subst (HasReadIndexes order) is tt
indexes_read files folder order (column ∷ columns) n indexes k e =
    let a = both_ok (read_index files folder order column n) _ indexes k e in
    let b = both_ok (read_indexes files folder order columns a.count) _ indexes k a.then in
    let is : (a.value ∷ b.value) ≡ indexes = value_same _ indexes b.count k b.then in
    subst (HasReadIndexes order) is (
      named_index files folder order (option_and_then own_file column.theme) n a.value a.count a.comes,
      indexes_read files folder order columns a.count b.value b.count b.comes,
    )

-- ---- a table

table_read : (files : Files) (folder file : List ℕ) (table : Option LoadedTable) (n : ℕ) (o : Option FeatureTable) (k : ℕ)
    → with_indexes files folder file table n ≡ (Ok o, k) → IfSome o (λ t. HasReadIndexes t.grid.head.order t.indexes)
table_read files folder file None n o k e = let is : None ≡ o = value_same None o n k e in subst (λ (x : Option FeatureTable). IfSome x (λ t. HasReadIndexes t.grid.head.order t.indexes)) is tt
table_read files folder file (Some table) n o k e =
    let a = both_ok (read_indexes files folder table.grid.head.order table.grid.head.columns n) _ o k e in
    let is : Some (record { name = file; grid = table.grid; indexes = a.value }) ≡ o = value_same _ o a.count k a.then in
    subst (λ (x : Option FeatureTable). IfSome x (λ t. HasReadIndexes t.grid.head.order t.indexes)) is
    (indexes_read files folder table.grid.head.order table.grid.head.columns n a.value a.count a.comes)

named_table : (files : Files) (folder : List ℕ) (name : Option (List ℕ)) (n : ℕ) (o : Option FeatureTable) (k : ℕ)
    → read_named_table files folder name n ≡ (Ok o, k) → IfSome o (λ t. HasReadIndexes t.grid.head.order t.indexes)
named_table files folder None n o k e = let is : None ≡ o = value_same None o n k e in subst (λ (x : Option FeatureTable). IfSome x (λ t. HasReadIndexes t.grid.head.order t.indexes)) is tt
named_table files folder (Some file) n o k e =
    let a = both_ok (read_optional_table files (within folder file) n) (with_indexes files folder file) o k e in
    table_read files folder file a.value a.count o k a.then

-- one that may be absent, and others
all_with : (table : Option FeatureTable) (tables : List FeatureTable) → IfSome table (λ t. HasReadIndexes t.grid.head.order t.indexes) → AreReadTables tables
    → AreReadTables (maybe table ++ tables)
all_with None tables h rest = rest
all_with (Some table) tables h rest = (h, rest)

tables_read : (files : Files) (folder : List ℕ) (items : List (List ℕ)) (n : ℕ) (tables : List FeatureTable) (k : ℕ)
    → read_feature_tables files folder items n ≡ (Ok tables, k) → AreReadTables tables
tables_read files folder [] n tables k e = let is : [] ≡ tables = value_same [] tables n k e in subst AreReadTables is tt
tables_read files folder (item ∷ items) n tables k e =
    let a = both_ok (read_named_table files folder (own_file item) n) _ tables k e in
    let b = both_ok (read_feature_tables files folder items a.count) _ tables k a.then in
    let is : (maybe a.value ++ b.value) ≡ tables = value_same _ tables b.count k b.then in
    subst AreReadTables is (all_with a.value b.value (named_table files folder (own_file item) n a.value a.count a.comes)
    (tables_read files folder items a.count b.value b.count b.comes))

-- ---- a schema

pub schema_read : (files : Files) (folder : List ℕ) (n : ℕ) (S : Schema) (k : ℕ) → read_schema files folder n ≡ (Ok S, k) → AreReadTables S.tables
schema_read files folder n S k e =
    let a = both_ok (read_schema_table files (schema_name folder) n) _ S k e in
    let b = both_ok (read_feature_tables files folder (feature_items (joins_of a.value)) a.count) _ S k a.then in
    let is : b.value ≡ S.tables = ap (λ (x : Schema). x.tables) (value_same _ S b.count k b.then) in
    subst AreReadTables is (tables_read files folder (feature_items (joins_of a.value)) a.count b.value b.count b.comes)
