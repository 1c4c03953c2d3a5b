-- What is so of the features of every coverage.
use Rattle.std.specs.Prelude.{◌≡◌, ◌↔◌, ℕ, ◌+◌, ◌≤◌, List, None, Ok}
use Rattle.vpf_source.specs.Files.{Files, HoldsBytes}
use Rattle.vpf_table.specs.Grid.{Grid}
use Rattle.vpf_library_files.specs.Loading.Holding.{bytes_in}
use Rattle.vpf_library_files.specs.Loading.Loading.{most_loaded}
use Rattle.vpf_feature_files.specs.Holding.{HoldsSchema, IsClassSchema}
use Rattle.vpf_feature_files.specs.Reading.{read_schema}
use Rattle.vpf_feature_files.specs.SchemaRows.Joins.{schema_finding}
use Rattle.vpf_feature_files.specs.Schemas.{Schema}

-- there is no finding exactly where it is a schema table
abbrev pub ClassSchemasDecide : Type 0
ClassSchemasDecide = (grid : Grid) → (schema_finding grid ≡ None) ↔ IsClassSchema grid

-- features are read exactly where the tree, whose files are of bytes, holds them within the limits
abbrev pub HeldSchemaIsRead : Type 0
HeldSchemaIsRead = (held : Files) (folder : List ℕ) (S : Schema) (before : ℕ) (h : HoldsSchema held folder S before)
    → read_schema held folder before ≡ (Ok S, before + bytes_in h.files)

abbrev pub ReadSchemaIsHeld : Type 0
ReadSchemaIsHeld = (held : Files) (folder : List ℕ) (S : Schema) (before behind : ℕ) → HoldsBytes held → before ≤ most_loaded
    → read_schema held folder before ≡ (Ok S, behind) → (h : HoldsSchema held folder S before) × (behind ≡ before + bytes_in h.files)
