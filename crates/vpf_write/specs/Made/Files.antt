-- The files of tables that are written (MIL-STD-2407, 5.2.1, tables and variable-length indexes).
use Rattle.std.specs.Prelude.{ℕ, List, [], ◌∷◌, Option, Some, None}
use Rattle.vpf_source.specs.declared.file.File.{File}
use Rattle.vpf_triplet.specs.declared.places.Part.{Part}
use Rattle.vpf_triplet.specs.declared.places.Part.TheVariants as parts
use Rattle.vpf_table.specs.Canonical.{canonical_table, canonical_index}
use Rattle.vpf_table.specs.Grid.{Grid}
use Rattle.vpf_source.specs.Names.Indexes.{index_name}

-- the file of an index, where a table has one
abbrev pub index_files : List ℕ → Option (List ℕ) → List File
index_files name None = []
index_files name (Some bytes) = record { name = index_name name; bytes = bytes } ∷ []

-- the file of a table, and that of its index where it has one
abbrev pub table_files : List ℕ → Grid → List File
table_files name g = record { name = name; bytes = canonical_table g } ∷ index_files name (canonical_index g)

-- the file that a limit of writing a table names: the table's, or its index's
abbrev pub part_name : List ℕ → Part → List ℕ
part_name name parts.Index = index_name name
part_name name part = name
