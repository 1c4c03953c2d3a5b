-- The files of features, read one after another up to the first that isn't taken: the schema table, then each feature table that it names, with the
-- thematic indexes that its columns name.
use Rattle.std.specs.Prelude.{ℕ, List, [], ◌∷◌, ◌++◌, Option, Some, None, option_and_then, Result, Ok, Err, codes, if◌then◌else◌}
use Rattle.vpf_source.specs.Files.{Files}
use Rattle.vpf_base.specs.declared.orders.Order.{Order}
use Rattle.vpf_triplet.specs.declared.places.Place.{Place}
use Rattle.vpf_head.specs.Head.{Col, varies_in}
use Rattle.vpf_table.specs.Grid.{Grid}
use Rattle.vpf_table.specs.Reading.{table_of}
use Rattle.vpf_theme.specs.Entries.{Theme}
use Rattle.vpf_theme.specs.Reading.{theme_of}
use Rattle.vpf_library_files.specs.declared.loading.loading.LoadStop.TheVariants as stops
use Rattle.vpf_library_files.specs.Loading.Loading.{LoadedTable, Read, ◌and_then◌, graded, read_optional, read_optional_table, read_table_in, within}
use Rattle.vpf_library_files.specs.Loading.Loads.{maybe}
use Rattle.vpf_tiling.specs.Plan.PlanLoads.{unless_found}
use Rattle.vpf_feature_files.specs.SchemaRows.Items.{own_file}
use Rattle.vpf_feature_files.specs.SchemaRows.Joins.{feature_items, schema_finding}
use Rattle.vpf_feature_files.specs.Schemas.{FeatureTable, Index, Schema, joins_of}

-- the name of the schema table of a coverage, by its folder
abbrev pub schema_name : (folder : List ℕ) → List ℕ
schema_name folder = within folder (codes "fcs")

-- a schema table, whose rows may not vary and whose columns are looked at when it is read
abbrev pub looked_at : (name : List ℕ) → Grid → ℕ → Read (Option Grid)
looked_at name grid loaded = if varies_in grid.head.columns then (Err (stops.Varies name), loaded) else (unless_found name (schema_finding grid) (Some grid), loaded)

-- the schema table in some bytes, if they are there
abbrev pub schema_in : (name : List ℕ) → Option (List ℕ) → ℕ → Read (Option Grid)
schema_in name None loaded = (Ok None, loaded)
schema_in name (Some bytes) loaded = graded name (looked_at name) (table_of bytes) loaded

-- the schema table of this name, which may be absent
abbrev pub read_schema_table : Files → (name : List ℕ) → ℕ → Read (Option Grid)
read_schema_table files name loaded = read_optional files name loaded and_then schema_in name

-- a thematic index of a file, or its first fault
abbrev pub theme_graded : (folder file : List ℕ) → Result Theme Place → ℕ → Read (Option Index)
theme_graded folder file (Ok theme) loaded = (Ok (Some (record { file = file; theme = theme })), loaded)
theme_graded folder file (Err place) loaded = (Err (stops.Place (within folder file) place), loaded)

-- the thematic index in the bytes of a file, if they are there
abbrev pub index_in : (folder file : List ℕ) → Order → Option (List ℕ) → ℕ → Read (Option Index)
index_in folder file order None loaded = (Ok None, loaded)
index_in folder file order (Some bytes) loaded = theme_graded folder file (theme_of order bytes) loaded

-- the thematic index in a file of the folder, if one is named
abbrev pub read_named_index : Files → (folder : List ℕ) → Order → Option (List ℕ) → ℕ → Read (Option Index)
read_named_index files folder order None loaded = (Ok None, loaded)
read_named_index files folder order (Some file) loaded = read_optional files (within folder file) loaded and_then index_in folder file order

-- the thematic index that a column names
abbrev pub read_index : Files → (folder : List ℕ) → Order → Col → ℕ → Read (Option Index)
read_index files folder order column loaded = read_named_index files folder order (option_and_then own_file column.theme) loaded

-- those of all columns, in their order
abbrev pub read_indexes : Files → (folder : List ℕ) → Order → List Col → ℕ → Read (List (Option Index))
read_indexes files folder order [] loaded = (Ok [], loaded)
read_indexes files folder order (column ∷ columns) loaded =
    read_index files folder order column loaded and_then λ index n.
    read_indexes files folder order columns n and_then λ indexes n.
    (Ok (index ∷ indexes), n)

-- a feature table that is there, with its thematic indexes
abbrev pub with_indexes : Files → (folder file : List ℕ) → Option LoadedTable → ℕ → Read (Option FeatureTable)
with_indexes files folder file None loaded = (Ok None, loaded)
with_indexes files folder file (Some table) loaded =
    read_indexes files folder table.grid.head.order table.grid.head.columns loaded and_then λ indexes n.
    (Ok (Some (record { name = file; grid = table.grid; indexes = indexes })), n)

-- the feature table in the bytes of a file of the folder
abbrev pub read_with_indexes : Files → (folder file bytes : List ℕ) → ℕ → Read (Option FeatureTable)
read_with_indexes files folder file bytes loaded =
    read_table_in files (within folder file) bytes loaded and_then λ table n. with_indexes files folder file (Some table) n

-- the feature table in a file of the folder, if one is named
abbrev pub read_named_table : Files → (folder : List ℕ) → Option (List ℕ) → ℕ → Read (Option FeatureTable)
read_named_table files folder None loaded = (Ok None, loaded)
read_named_table files folder (Some file) loaded = read_optional_table files (within folder file) loaded and_then with_indexes files folder file

-- the feature tables that items name, as far as they are there, in that order
abbrev pub read_feature_tables : Files → (folder : List ℕ) → List (List ℕ) → ℕ → Read (List FeatureTable)
read_feature_tables files folder [] loaded = (Ok [], loaded)
read_feature_tables files folder (item ∷ items) loaded =
    read_named_table files folder (own_file item) loaded and_then λ table n.
    read_feature_tables files folder items n and_then λ tables n.
    (Ok (maybe table ++ tables), n)

-- the feature tables that a schema table names, and with it the schema
abbrev pub read_with_tables : Files → (folder : List ℕ) → Option Grid → ℕ → Read Schema
read_with_tables files folder fcs loaded =
    read_feature_tables files folder (feature_items (joins_of fcs)) loaded and_then λ tables n. (Ok (record { fcs = fcs; tables = tables }), n)

-- the schema in the bytes of the schema table of this name
abbrev pub read_schema_in : Files → (folder name bytes : List ℕ) → ℕ → Read Schema
read_schema_in files folder name bytes loaded = schema_in name (Some bytes) loaded and_then read_with_tables files folder

-- the schema of the coverage in this folder
abbrev pub read_schema : Files → (folder : List ℕ) → ℕ → Read Schema
read_schema files folder loaded = read_schema_table files (schema_name folder) loaded and_then read_with_tables files folder
