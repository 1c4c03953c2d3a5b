-- All tiles of a coverage have the same columns (MIL-STD-2407, 5.2.3, tiled coverages).
use Rattle.std.specs.Prelude.{◌≡◌, ℕ, List, Option, Some, IfSome}
use Rattle.std.specs.List.{AllByRecursion}
use Rattle.std.specs.Option.{option_map}
use Rattle.vpf_triplet.specs.declared.kinds.Kind.{Kind}
use Rattle.vpf_triplet.specs.declared.kinds.Count.{Count}
use Rattle.vpf_head.specs.Head.{Col, place_of}
use Rattle.vpf_table.specs.Grid.{Grid}
use Rattle.vpf_prims.specs.Columns.{column_of}
use Rattle.vpf_prims.specs.Coverages.{CoverageTables, tile_at}
use Rattle.vpf_prims.specs.Reading.{PrimitiveTables}
use Rattle.vpf_prims.specs.Roles.{Role, edge_roles, face_roles, ring_roles, node_roles, entity_roles}
use Rattle.vpf_prims.specs.Suiting.{HasColumns, carried_columns}
use Rattle.vpf_prims.specs.Tables.{TileTables}
use Rattle.vpf_numbers.specs.Around.{Around, around_of, model_edg, model_fac, model_rng, model_cnd, model_end}

-- the kind and the count of a column
abbrev pub form_of : Col → Kind × Count
form_of column = (column.kind, column.count)

-- two tables have the same names, in any case, at the same places, and what they carry is of the same kinds and counts
pub record HaveSameColumns (roles : List Role) (columns there : List Col) : Type 0 where
  pub places : (name : List ℕ) → place_of name columns ≡ place_of name there
  pub forms : AllByRecursion (λ (column : Col). option_map form_of (column_of there column.name) ≡ Some (form_of column)) (carried_columns roles columns)

-- the columns of a table are those that they are to be like
abbrev pub AreLike : List Role → Option (List Col) → List Col → Type 0
AreLike roles model columns = IfSome model (λ there. HaveSameColumns roles columns there)

-- the columns of a tile's tables are those of the first tile that has the table
pub record ColumnsMatch (A : Around) (t : PrimitiveTables) : Type 0 where
  pub edg : AreLike edge_roles (model_edg A) t.edg.head.columns
  pub fac : AreLike face_roles (model_fac A) t.fac.head.columns
  pub rng : AreLike ring_roles (model_rng A) t.rng.head.columns
  pub cnd : AreLike node_roles (model_cnd A) t.cnd.head.columns
  pub end : (grid : Grid) → t.end ≡ Some grid → AreLike entity_roles (model_end A) grid.head.columns

-- the tables of all tiles have their columns, which are the same in all
pub record HaveColumns (c : CoverageTables) : Type 0 where
  pub suit : (t : ℕ) (T : TileTables) → tile_at c t ≡ Some T → HasColumns T.tables
  pub like_first : (t : ℕ) (T : TileTables) → tile_at c t ≡ Some T → ColumnsMatch (around_of c) T.tables
