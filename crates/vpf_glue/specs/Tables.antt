-- The files of a glued coverage: its tables in the order in which they are made, and what gluing comes to (MIL-STD-2407, 5.2.3, tiled coverages).
use Rattle.std.specs.Prelude.{ℕ, List, [], ◌∷◌, ◌++◌, Option, None, Some, Result, codes}
use Rattle.vpf_source.specs.declared.file.File.{File}
use Rattle.vpf_table.specs.Grid.{Grid}
use Rattle.vpf_prims.specs.Coverages.{CoverageTables}
use Rattle.vpf_prims.specs.Reading.{PrimitiveTables}
use Rattle.vpf_library_files.specs.declared.table_files.errors.AddError.{AddError}
use Rattle.vpf_library_files.specs.TableFiles.Adding.{NamedTable, made_of_tables, table_within}
use Rattle.vpf_primitive_tables.specs.TileTables.Grids.{tiles_made}
use Rattle.vpf_feature_writing.specs.Schemas.{Schema}
use Rattle.vpf_feature_writing.specs.Making.{Made, features_made, made_then}
use Rattle.vpf_glue.specs.GluedTables.Grids.{first_tables, glued_tables, plan_grid}

-- the table of tiles of the library
abbrev pub glued_tileref : Grid → NamedTable
glued_tileref tileref = table_within (codes "tileref") (codes "tileref.aft") (tiles_made tileref)

-- the table of entity nodes, where there is one
abbrev pub end_tables : (cov : List ℕ) → Option Grid → List NamedTable
end_tables cov None = []
end_tables cov (Some end) = table_within cov (codes "end") end ∷ []

-- the plan, which says in which tile each face was
abbrev pub plan_table : (cov : List ℕ) → Grid → NamedTable
plan_table cov plan = table_within cov (codes "plan") plan

-- the table of entity nodes, where there is one, and the plan
abbrev pub last_tables : (cov : List ℕ) → Option Grid → Grid → List NamedTable
last_tables cov end plan = end_tables cov end ++ plan_table cov plan ∷ []

-- the tables of a coverage of this name, and its plan
abbrev pub glued_coverage_tables : (cov : List ℕ) → PrimitiveTables → Grid → List NamedTable
glued_coverage_tables cov tables plan =
    table_within cov (codes "edg") tables.edg ∷ table_within cov (codes "fac") tables.fac ∷ table_within cov (codes "rng") tables.rng
    ∷ table_within cov (codes "cnd") tables.cnd ∷ last_tables cov tables.end plan

-- all tables that gluing makes, like those of the first tile that has any; none where no tile has
abbrev pub glued_tables_like : (cov : List ℕ) → CoverageTables → Grid → Option PrimitiveTables → List NamedTable
glued_tables_like cov c tileref None = []
glued_tables_like cov c tileref (Some first) = glued_tileref tileref ∷ glued_coverage_tables cov (glued_tables first c) (plan_grid c)

-- what gluing a coverage of this name comes to: the files of these tables, or the first limit that one of them would pass
abbrev pub glued_made : (cov : List ℕ) → CoverageTables → (tileref : Grid) → Result (List File) AddError
glued_made cov c tileref = made_of_tables (glued_tables_like cov c tileref (first_tables c))

-- the same, and behind them the features of a schema
abbrev pub glued_with_features : (cov : List ℕ) → CoverageTables → Schema → (tileref : Grid) → Made
glued_with_features cov c S tileref = made_then (glued_made cov c tileref) (features_made cov S)
