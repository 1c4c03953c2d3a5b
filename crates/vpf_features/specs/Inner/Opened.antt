-- That files can be opened as what they hold.
use Rattle.std.specs.Prelude.{ℕ, List, Option}
use Rattle.vpf_source.specs.declared.file.File.{File}
use Rattle.vpf_table.specs.Grid.{Grid}
use Rattle.vpf_base.specs.declared.orders.Order.{Order}
use Rattle.vpf_feature_files.specs.Inner.Held.{AreIndexFiles, AreTableFiles, AreTablesFiles, IsIndexFile, IsSchemaFileOption}
use Rattle.vpf_feature_files.specs.Schemas.{FeatureTable, Index}
use Rattle.vpf_feature_files.specs.declared.files.TableFiles.{TableFiles}

-- a file is some thematic index of a table in this order
abbrev pub HasIndexFile : Order → File → Type 0
HasIndexFile order file = (index : Index) × IsIndexFile order index file

-- files are some indexes of the columns of such a table
abbrev pub HaveIndexFiles : Order → List (Option File) → Type 0
HaveIndexFiles order files = (indexes : List (Option Index)) × AreIndexFiles order indexes files

-- files are some feature table
abbrev pub IsOfTable : (folder : List ℕ) → TableFiles → Type 0
IsOfTable folder files = (table : FeatureTable) × AreTableFiles folder table files

-- they are some feature tables
abbrev pub AreOfTables : (folder : List ℕ) → List TableFiles → Type 0
AreOfTables folder files = (tables : List FeatureTable) × AreTablesFiles folder tables files

-- a file is some schema table, where there is one
abbrev pub HasSchemaFile : (folder : List ℕ) → Option File → Type 0
HasSchemaFile folder file = (fcs : Option Grid) × IsSchemaFileOption folder fcs file
