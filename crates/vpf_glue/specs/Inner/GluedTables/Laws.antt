-- What is so of the rows of the tables of every coverage.
use Rattle.std.specs.Prelude.{◌≡◌, ℕ, All, List, Option, Some, codes}
use Rattle.vpf_triplet.specs.declared.kinds.Kind.TheVariants as kinds
use Rattle.vpf_head.specs.Head.{Col}
use Rattle.vpf_head.specs.Inner.Soundness.{IsCounted}
use Rattle.vpf_table.specs.Canonical.{FitsRow}
use Rattle.vpf_table.specs.Grid.{Grid, Row}
use Rattle.vpf_prims.specs.Coverages.{CoverageTables, tile_at}
use Rattle.vpf_prims.specs.Libraries.{IsLibrary, library_of}
use Rattle.vpf_prims.specs.Reading.{PrimitiveTables}
use Rattle.vpf_prims.specs.Tables.{TileTables}
use Rattle.vpf_library_files.specs.Inner.Loading.Laws.{IsNamedApart}
use Rattle.vpf_numbers.specs.Matching.{HaveColumns}
use Rattle.vpf_write.specs.Revise.Revising.{FitsElsewhere, NewValue, with_kinds}
use Rattle.vpf_write.specs.declared.revise.changes.NewKind.{NewKind}
use Rattle.vpf_primitive_tables.specs.TableForms.Forms.{EdgeValues, edge_kinds_of, edge_values_of, pair_kinds, pair_values}

-- two tables of a coverage whose tiles have the same columns: each is that of a tile, and no two of its columns have the same name
pub record AreOfTiles (of : PrimitiveTables → Option Grid) (c : CoverageTables) (like there : Grid) : Type 0 where
  pub library : IsLibrary (library_of c)
  pub columns : HaveColumns c
  pub tile : ℕ
  pub T : TileTables
  pub has : tile_at c tile ≡ Some T
  pub table : of T.tables ≡ Some like
  pub apart : IsNamedApart like
  pub other : ℕ
  pub U : TileTables
  pub has_other : tile_at c other ≡ Some U
  pub table_there : of U.tables ≡ Some there
  pub apart_there : IsNamedApart there

-- each row of the other table fits the columns of the first with new kinds, but for the cells that get new values
abbrev pub FitThere : (List Col → List NewKind) → (List Col → List NewValue) → (like there : Grid) → Type 0
FitThere news values like there =
    (row : Row) → FitsRow there.head.columns row → FitsElsewhere (values like.head.columns) (with_kinds (news like.head.columns) like.head.columns) row

-- the rows of edges of all tiles fit the glued table; a mark has one value, since the count of its column is one that its kind allows
abbrev pub EdgeRowsFit : Type 0
EdgeRowsFit = (c : CoverageTables) (like there : Grid) → AreOfTiles (λ T. Some T.edg) c like there
    → All IsCounted like.head.columns → All IsCounted there.head.columns → (k : ℕ) (v : EdgeValues)
    → FitThere (edge_kinds_of kinds.I) (λ columns. edge_values_of columns k v) like there

-- the rows of faces
abbrev pub FaceRowsFit : Type 0
FaceRowsFit = (c : CoverageTables) (like there : Grid) → AreOfTiles (λ T. Some T.fac) c like there → (k n : ℕ)
    → FitThere (pair_kinds (codes "ring_ptr")) (λ columns. pair_values (codes "ring_ptr") columns k n) like there

-- the rows of connected nodes
abbrev pub NodeRowsFit : Type 0
NodeRowsFit = (c : CoverageTables) (like there : Grid) → AreOfTiles (λ T. Some T.cnd) c like there → (k n : ℕ)
    → FitThere (pair_kinds (codes "first_edge")) (λ columns. pair_values (codes "first_edge") columns k n) like there

-- the rows of entity nodes
abbrev pub EntityRowsFit : Type 0
EntityRowsFit = (c : CoverageTables) (like there : Grid) → AreOfTiles (λ T. T.end) c like there → (k n : ℕ)
    → FitThere (pair_kinds (codes "containing_face")) (λ columns. pair_values (codes "containing_face") columns k n) like there
