-- What disagrees in the features of a coverage, and the file that it is in: each feature table in the order of reading; and, apart from that, the thematic
-- indexes, table by table and column by column.
use Rattle.std.specs.Prelude.{◌≡◌, ℕ, suc, List, [], ◌∷◌, Option, Some, None, Result, Ok, Err}
use Rattle.std.specs.Option.{option_map}
use Rattle.vpf_table.specs.Grid.{Grid}
use Rattle.vpf_findings.specs.Findings.{Disagreement, disagreement_of}
use Rattle.vpf_findings.specs.Firsts.{◌or◌}
use Rattle.vpf_theme.specs.Findings.{cells_of, first_finding, of_column}
use Rattle.vpf_library_files.specs.Loading.Loading.{within}
use Rattle.vpf_feature_files.specs.Schemas.{FeatureTable, Index}
use Rattle.vpf_features.specs.Lines.{feature_finding}
use Rattle.vpf_features.specs.declared.faults.FeatureFault.{FeatureFault}
use Rattle.vpf_features.specs.declared.faults.FeatureFault.TheVariants as faults

-- a place that disagrees, and the name of its file
abbrev pub Named : Type 0
Named = List ℕ × Disagreement

-- the same place in a file of this name
abbrev pub in_file : List ℕ → Disagreement → Named
in_file name d = (name, d)

-- the first finding on a feature table, apart from its indexes
abbrev pub feature_table_finding : (folder : List ℕ) → FeatureTable → Option Named
feature_table_finding folder table = option_map (in_file (within folder table.name)) (feature_finding table.grid)

-- .. on the feature tables
abbrev pub tables_finding : (folder : List ℕ) → List FeatureTable → Option Named
tables_finding folder [] = None
tables_finding folder (table ∷ tables) = feature_table_finding folder table or tables_finding folder tables

-- .. on the thematic index of a column, if one is there
abbrev pub index_finding : (folder : List ℕ) → Grid → ℕ → Option Index → Option Named
index_finding folder grid c None = None
index_finding folder grid c (Some index) =
    option_map (in_file (within folder index.file)) (of_column grid c (λ column. first_finding index.theme column (cells_of grid c)))

-- .. on those of the columns from this position on
abbrev pub indexes_finding : (folder : List ℕ) → Grid → ℕ → List (Option Index) → Option Named
indexes_finding folder grid c [] = None
indexes_finding folder grid c (index ∷ indexes) = index_finding folder grid c index or indexes_finding folder grid (suc c) indexes

-- .. on the thematic indexes of feature tables
abbrev pub themes_finding : (folder : List ℕ) → List FeatureTable → Option Named
themes_finding folder [] = None
themes_finding folder (table ∷ tables) = indexes_finding folder table.grid 0 table.indexes or themes_finding folder tables

-- a call answered Ok where there is no finding, and else the first one, in its file; of want of memory nothing is said
abbrev pub TellsNamed : {V : Type 0} → Result V FeatureFault → Option Named → Type 0
TellsNamed (Ok v) first = first ≡ None
TellsNamed (Err (faults.Finding name f)) first = first ≡ Some (name, disagreement_of f)
TellsNamed (Err faults.NoMemory) first = Unit {0}
