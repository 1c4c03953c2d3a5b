-- Nothing is found on feature tables and their thematic indexes exactly where features agree.
use Rattle.std.proofs.Common.{[], ◌≡◌, ℕ, zero, suc, ◌+◌, List, ◌∷◌, Option, Some, None, refl, subst, arith}
use Rattle.std.specs.Prelude.{◌↔◌, IfSome, slice_get}
use Rattle.std.specs.List.{AllByRecursion}
use Rattle.std.specs.Option.{option_and_then, option_map}
use Rattle.vpf_base.specs.declared.orders.Order.{Order}
use Rattle.vpf_value.specs.Values.{Value}
use Rattle.vpf_head.specs.Head.{Col}
use Rattle.vpf_findings.specs.Findings.{Disagreement}
use Rattle.vpf_table.specs.Grid.{Grid}
use Rattle.vpf_theme.specs.Entries.{Theme}
use Rattle.vpf_theme.specs.Findings.{cells_of, first_finding, of_column}
use Rattle.vpf_theme.specs.Agreeing.{AgreesAt, AgreesWithColumn, HaveRows}
use Rattle.vpf_library_files.specs.Loading.Loading.{within}
use Rattle.vpf_features.specs.Schemas.{FeatureTable, Index}
use Rattle.vpf_features.specs.Finding.{feature_table_finding, in_file, index_finding, indexes_finding, tables_finding, themes_finding}
use Rattle.vpf_features.specs.Lines.{feature_finding}
use Rattle.vpf_features.specs.FeatureAgreement.Agreeing.{AreFeatures, AreReadTables, FeaturesDecide, HasReadIndexes, HaveOwnIndexes, IsReadIndex}
use Rattle.vpf_features.proofs.feature_agreement.ThemeRows.{read_rows}
use Rattle.vpf_features.proofs.feature_agreement.ReadLemmas.{schema_read}
use Rattle.vpf_features.proofs.feature_agreement.FeatureLines.{feature_decides, or_decides}
use Rattle.vpf_base.proofs.Booleans.{through}

-- what the law on an index and a column says
abbrev pub SilentAgrees : Type 0
SilentAgrees = (t : Theme) (column : Col) (cells : List Value) → HaveRows t → first_finding t column cells ≡ None → AgreesWithColumn t column cells

abbrev pub AgreesSilent : Type 0
AgreesSilent = (t : Theme) (column : Col) (cells : List Value) → AgreesWithColumn t column cells → first_finding t column cells ≡ None

-- what is said in a file is said
named_decides : {A B : Type 0} (f : A → B) (first : Option A) → (option_map f first ≡ None) ↔ (first ≡ None)
named_decides f None = (λ h. refl, λ h. refl)
named_decides f (Some a) = (λ h. absurd cc, λ h. absurd cc)

-- what is said of a column, where it is there
column_decides : (Is : Col → Type 0) (line : Col → Option Disagreement) (there : Option Col) → ((column : Col) → (line column ≡ None) ↔ Is column)
    → (option_and_then line there ≡ None) ↔ ((column : Col) → there ≡ Some column → Is column)
column_decides Is line None decides = (λ h column e. absurd cc, λ h. refl)
column_decides Is line (Some column) decides =
    (λ h other e. let same : column ≡ other = cc in subst Is same ((decides column).0 h), λ h. (decides column).1 (h column refl))

-- ---- indexes

-- the thematic index, if one is there, is one of the column at this position
abbrev ServesAt : Grid → ℕ → Option Index → Type 0
ServesAt grid c index = IfSome index (λ (i : Index). AgreesAt i.theme grid c)

index_decides : SilentAgrees → AgreesSilent → (folder : List ℕ) (grid : Grid) (c : ℕ) (order : Order) (index : Option Index) → IfSome index (IsReadIndex order)
    → (index_finding folder grid c index ≡ None) ↔ ServesAt grid c index
index_decides agrees silent folder grid c order None is = (λ h. tt, λ h. refl)
index_decides agrees silent folder grid c order (Some index) is =
    let t = index.theme in
    let cells = cells_of grid c in
    let line : Col → Option Disagreement = λ column. first_finding t column cells in
    through (named_decides (in_file (within folder index.file)) (of_column grid c line))
    (column_decides (λ column. AgreesWithColumn t column cells) line (slice_get grid.head.columns c)
    (λ column. (agrees t column cells (read_rows order is.bytes t is.opened), silent t column cells)))

-- each thematic index of the columns from this position on is one of its column
abbrev ServeFrom : Grid → ℕ → List (Option Index) → Type 0
ServeFrom grid from indexes = (c : ℕ) (index : Index) → slice_get indexes c ≡ Some (Some index) → AgreesAt index.theme grid (from + c)

serve_cons : (grid : Grid) (from : ℕ) (index : Option Index) (indexes : List (Option Index))
    → (ServesAt grid from index × ServeFrom grid (suc from) indexes) ↔ ServeFrom grid from (index ∷ indexes)
serve_cons grid from index indexes = (whole index, λ h. (first index h, λ c i is. rest index h c i is))
  where
    moved : (i : Index) (c d : ℕ) → c ≡ d → AgreesAt i.theme grid c → AgreesAt i.theme grid d
    moved i c d e h = subst (AgreesAt i.theme grid) e h

    whole : (index : Option Index) → ServesAt grid from index × ServeFrom grid (suc from) indexes → ServeFrom grid from (index ∷ indexes)
    whole index h zero i is = let same : index ≡ Some i = cc in moved i from (from + zero) (omega arith) (subst (ServesAt grid from) same h.0)
    whole index h (suc c) i is = moved i (suc from + c) (from + suc c) (omega arith) (h.1 c i is)

    first : (index : Option Index) → ServeFrom grid from (index ∷ indexes) → ServesAt grid from index
    first None h = tt
    first (Some i) h = moved i (from + zero) from (omega arith) (h zero i refl)

    rest : (index : Option Index) → ServeFrom grid from (index ∷ indexes) → ServeFrom grid (suc from) indexes
    rest index h c i is = moved i (from + suc c) (suc from + c) (omega arith) (h (suc c) i is)

indexes_decide : SilentAgrees → AgreesSilent → (folder : List ℕ) (grid : Grid) (from : ℕ) (order : Order) (indexes : List (Option Index))
    → HasReadIndexes order indexes → (indexes_finding folder grid from indexes ≡ None) ↔ ServeFrom grid from indexes
indexes_decide agrees silent folder grid from order [] are = (λ h c i is. absurd cc, λ h. refl)
indexes_decide agrees silent folder grid from order (index ∷ indexes) are =
    through
    (or_decides (index_finding folder grid from index) (indexes_finding folder grid (suc from) indexes)
    (index_decides agrees silent folder grid from order index are.0)
    (indexes_decide agrees silent folder grid (suc from) order indexes are.1))
    (serve_cons grid from index indexes)

from_first : (table : FeatureTable) → ServeFrom table.grid 0 table.indexes ↔ HaveOwnIndexes table
from_first table = (
  λ h c i is. subst (AgreesAt i.theme table.grid) (omega arith) (h c i is),
  λ h c i is. subst (AgreesAt i.theme table.grid) (omega arith) (h c i is),
)

-- ---- tables

tables_decide : (folder : List ℕ) (tables : List FeatureTable)
    → (tables_finding folder tables ≡ None) ↔ AllByRecursion (λ (table : FeatureTable). AreFeatures table.grid) tables
tables_decide folder [] = (λ h. tt, λ h. refl)
tables_decide folder (table ∷ tables) =
    or_decides (feature_table_finding folder table) (tables_finding folder tables)
    (through (named_decides (in_file (within folder table.name)) (feature_finding table.grid)) (feature_decides table.grid)) (tables_decide folder tables)

themes_decide : SilentAgrees → AgreesSilent → (folder : List ℕ) (tables : List FeatureTable) → AreReadTables tables
    → (themes_finding folder tables ≡ None) ↔ AllByRecursion HaveOwnIndexes tables
themes_decide agrees silent folder [] are = (λ h. tt, λ h. refl)
themes_decide agrees silent folder (table ∷ tables) are =
    or_decides (indexes_finding folder table.grid 0 table.indexes) (themes_finding folder tables)
    (through (indexes_decide agrees silent folder table.grid 0 table.grid.head.order table.indexes are.0) (from_first table))
    (themes_decide agrees silent folder tables are.1)

-- the lines on the features of a schema that was read
pub features_decided : SilentAgrees → AgreesSilent → FeaturesDecide
features_decided agrees silent files folder before behind S read =
    through
    (or_decides (tables_finding folder S.tables) (themes_finding folder S.tables) (tables_decide folder S.tables)
    (themes_decide agrees silent folder S.tables (schema_read files folder before S behind read)))
    (λ h. record { features = h.0; indexes = h.1 }, λ h. (h.features, h.indexes))
