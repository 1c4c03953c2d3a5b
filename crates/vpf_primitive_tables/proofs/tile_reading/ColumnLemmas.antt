-- The tables of tiles have their columns, of kinds that their roles allow, and the same ones in all tiles.
use Rattle.std.proofs.Common.{[], ◌≡◌, ℕ, Bool, true, false, cond, List, ◌∷◌, ◌++◌, codes, append-nil, Option, Some, None, refl, sym, ap, ◌∙◌, subst}
use Rattle.std.specs.List.{AllByRecursion, IsDistinct}
use Rattle.std.specs.Option.{option_map}
use Rattle.vpf_triplet.specs.declared.kinds.Kind.{Kind}
use Rattle.vpf_triplet.specs.declared.kinds.Kind.TheVariants as kinds
use Rattle.vpf_head.specs.Folding.{same_name}
use Rattle.vpf_head.specs.Head.{Col, names}
use Rattle.vpf_table.specs.Grid.{Grid}
use Rattle.vpf_write.specs.declared.revise.changes.NewKind.{NewKind}
use Rattle.vpf_write.specs.Revise.Revising.{revised_column, with_kinds}
use Rattle.vpf_library_files.specs.Inner.Loading.Laws.{AreNamedApart}
use Rattle.vpf_numbers.specs.Around.{around_of, model_end}
use Rattle.vpf_numbers.specs.Matching.{AreLike, ColumnsMatch, HaveColumns}
use Rattle.vpf_prims.specs.Coverages.{CoverageTables, tile_at}
use Rattle.vpf_prims.specs.Reading.{PrimitiveTables, primitives_of}
use Rattle.vpf_prims.specs.Roles.{Role, edge_roles, entity_roles, face_roles, node_roles, ring_roles}
use Rattle.vpf_prims.specs.Suiting.{HasColumns, HasRoles}
use Rattle.vpf_prims.specs.Tables.{TileTables}
use Rattle.vpf_tiling.specs.Tiles.{is_made}
use Rattle.vpf_primitive_tables.specs.TableForms.Forms.{named_kind, pair_kinds, ring_kinds}
use Rattle.vpf_primitive_tables.specs.TileTables.Grids.{edge_kinds, entities_made}
use Rattle.vpf_primitive_tables.specs.Inner.TileReading.Cuts.{IsCutInto, tables_of_tile}
use Rattle.vpf_primitive_tables.proofs.tile_reading.KindLemmas.{Allows, bare_kept, kinds_said, roles_suit}
use Rattle.vpf_base.proofs.Lists.{each_kept}
use Rattle.vpf_primitive_tables.specs.Inner.TileReading.RowLaws.{SuitRoles}
use Rattle.vpf_primitive_tables.proofs.tile_reading.SameLemmas.{HasThese, like_first}

-- the new kinds of the columns of edges by their names
abbrev edge_kind_pairs : List (List ℕ × Kind)
edge_kind_pairs =
    (codes "id", kinds.I)
    ∷ (codes "start_node", kinds.K)
    ∷ (codes "end_node", kinds.K)
    ∷ (codes "right_face", kinds.K)
    ∷ (codes "left_face", kinds.K)
    ∷ (codes "right_edge", kinds.K)
    ∷ (codes "left_edge", kinds.K) ∷ []

-- these are the new kinds of edges
edge_kinds_are : (columns : List Col) → kinds_said columns edge_kind_pairs ≡ edge_kinds columns
edge_kinds_are columns = λ i.
    (named_kind columns (codes "id") kinds.I
    ++ (named_kind columns (codes "start_node") kinds.K
    ++ (named_kind columns (codes "end_node") kinds.K
    ++ (named_kind columns (codes "right_face") kinds.K
    ++ (named_kind columns (codes "left_face") kinds.K
    ++ (named_kind columns (codes "right_edge") kinds.K
    ++ append-nil (named_kind columns (codes "left_edge") kinds.K) i))))))

-- the columns of edges suit their roles
edges_suit : (columns : List Col) → SuitRoles edge_roles columns → SuitRoles edge_roles (with_kinds (edge_kinds columns) columns)
edges_suit columns s =
    subst (λ (new : List NewKind). SuitRoles edge_roles (with_kinds new columns)) (edge_kinds_are columns)
    (roles_suit columns edge_kind_pairs edge_roles (refl, (refl, (refl, (refl, (refl, (refl, (refl, (tt, tt)))))))) s)

-- those of a table with one column of references
abbrev pair_kind_pairs : List ℕ → List (List ℕ × Kind)
pair_kind_pairs name = (codes "id", kinds.I) ∷ (name, kinds.I) ∷ []

-- these are the new kinds of such a table
pair_kinds_are : (name : List ℕ) (columns : List Col) → kinds_said columns (pair_kind_pairs name) ≡ pair_kinds name columns
pair_kinds_are name columns = λ i. (named_kind columns (codes "id") kinds.I ++ append-nil (named_kind columns name kinds.I) i)

-- its columns suit their roles
pairs_suit : (name : List ℕ) (roles : List Role) (columns : List Col) → AllByRecursion (Allows (pair_kind_pairs name)) roles → SuitRoles roles columns
    → SuitRoles roles (with_kinds (pair_kinds name columns) columns)
pairs_suit name roles columns allows s =
    subst (λ (new : List NewKind). SuitRoles roles (with_kinds new columns)) (pair_kinds_are name columns)
    (roles_suit columns (pair_kind_pairs name) roles allows s)

-- those of rings
abbrev ring_kind_pairs : List (List ℕ × Kind)
ring_kind_pairs = (codes "id", kinds.I) ∷ (codes "face_id", kinds.I) ∷ (codes "start_edge", kinds.I) ∷ []

-- these are the new kinds of rings
ring_kinds_are : (columns : List Col) → kinds_said columns ring_kind_pairs ≡ ring_kinds columns
ring_kinds_are columns = λ i.
    (named_kind columns (codes "id") kinds.I
    ++ (named_kind columns (codes "face_id") kinds.I ++ append-nil (named_kind columns (codes "start_edge") kinds.I) i))

-- the columns of rings suit their roles
rings_suit : (columns : List Col) → SuitRoles ring_roles columns → SuitRoles ring_roles (with_kinds (ring_kinds columns) columns)
rings_suit columns s =
    subst (λ (new : List NewKind). SuitRoles ring_roles (with_kinds new columns)) (ring_kinds_are columns)
    (roles_suit columns ring_kind_pairs ring_roles (refl, (refl, (refl, tt))) s)

-- a table of entity nodes is made of one
record MadeOf (T : PrimitiveTables) (plan : ℕ → ℕ) (t : ℕ) (grid : Grid) : Type 0 where
  pub source : Grid
  pub there : T.end ≡ Some source
  pub is : entities_made source (primitives_of T) plan t ≡ grid

-- the table that it is made of
made_by : (T : PrimitiveTables) (plan : ℕ → ℕ) (t : ℕ) (grid : Grid) (o : Option Grid) → T.end ≡ o
    → option_map (λ grid. entities_made grid (primitives_of T) plan t) o ≡ Some grid
    → MadeOf T plan t grid
made_by T plan t grid None e h = absurd (none_some grid h)
  where
    none_some : (grid : Grid) → None ≡ Some grid → ⊥
    none_some grid e = cc
made_by T plan t grid (Some source) e h = record { source = source; there = e; is = some_inner _ _ h }
  where
    some_inner : (a b : Grid) → Some a ≡ Some b → a ≡ b
    some_inner a b e = cc

made_of : (T : PrimitiveTables) (plan : ℕ → ℕ) (t : ℕ) (grid : Grid) → (tables_of_tile T plan t).end ≡ Some grid → MadeOf T plan t grid
made_of T plan t grid h = made_by T plan t grid T.end refl h

-- the tables of a tile have their columns
pub made_columns : (T : PrimitiveTables) (plan : ℕ → ℕ) (t : ℕ) → HasColumns T → HasColumns (tables_of_tile T plan t)
made_columns T plan t has = record {
  edg = edges_suit T.edg.head.columns has.edg;
  fac = pairs_suit (codes "ring_ptr") face_roles T.fac.head.columns (refl, (refl, tt)) has.fac;
  rng = rings_suit T.rng.head.columns has.rng;
  cnd = pairs_suit (codes "first_edge") node_roles T.cnd.head.columns (refl, (refl, tt)) has.cnd;
  end = λ grid e. (
      let m : MadeOf T plan t grid = made_of T plan t grid e in
      subst (HasRoles entity_roles) m.is
      (pairs_suit (codes "containing_face") entity_roles m.source.head.columns (refl, (refl, tt)) (has.end m.source m.there)));
  bare = bare_kept ring_roles (ring_kinds T.rng.head.columns) T.rng.head.columns has.bare;
}

-- names stay apart
apart_kept : (new : List NewKind) (columns : List Col) → IsDistinct same_name (names columns) → IsDistinct same_name (names (with_kinds new columns))
apart_kept new columns apart =
    subst (IsDistinct same_name) (sym (each_kept (λ at. revised_column new at.0 at.1) (λ (column : Col). column.name) 0 columns (λ c column. refl))) apart

-- the columns of entity nodes are those of the first tile
entities_like : (T : PrimitiveTables) (plan : ℕ → ℕ) (tiles : ℕ) (c : CoverageTables) → AreNamedApart T → IsCutInto T plan tiles c
    → (t : ℕ) (source : Grid) → T.end ≡ Some source
    → AreLike entity_roles (model_end (around_of c)) (entities_made source (primitives_of T) plan t).head.columns
entities_like T plan tiles c apart cut t source there =
    like_first T plan tiles c cut (λ (tables : PrimitiveTables). tables.end) entity_roles columns
    (apart_kept (pair_kinds (codes "containing_face") source.head.columns) source.head.columns (apart.end source there)) (λ t.
    subst (λ (o : Option Grid). HasThese columns (option_map (λ grid. entities_made grid (primitives_of T) plan t) o)) (sym there) refl)
  where
    columns : List Col
    columns = with_kinds (pair_kinds (codes "containing_face") source.head.columns) source.head.columns

-- those of all tiles are the same
pub made_match : (T : PrimitiveTables) (plan : ℕ → ℕ) (tiles : ℕ) (c : CoverageTables) → AreNamedApart T → IsCutInto T plan tiles c → (t : ℕ)
    → ColumnsMatch (around_of c) (tables_of_tile T plan t)
made_match T plan tiles c apart cut t = record {
  edg = like_first T plan tiles c cut (λ (tables : PrimitiveTables). Some tables.edg) edge_roles (with_kinds (edge_kinds T.edg.head.columns) T.edg.head.columns)
      (apart_kept (edge_kinds T.edg.head.columns) T.edg.head.columns apart.edg) (λ t. refl);
  fac = like_first T plan tiles c cut (λ (tables : PrimitiveTables). Some tables.fac) face_roles
      (with_kinds (pair_kinds (codes "ring_ptr") T.fac.head.columns) T.fac.head.columns)
      (apart_kept (pair_kinds (codes "ring_ptr") T.fac.head.columns) T.fac.head.columns apart.fac) (λ t. refl);
  rng = like_first T plan tiles c cut (λ (tables : PrimitiveTables). Some tables.rng) ring_roles (with_kinds (ring_kinds T.rng.head.columns) T.rng.head.columns)
      (apart_kept (ring_kinds T.rng.head.columns) T.rng.head.columns apart.rng) (λ t. refl);
  cnd = like_first T plan tiles c cut (λ (tables : PrimitiveTables). Some tables.cnd) node_roles
      (with_kinds (pair_kinds (codes "first_edge") T.cnd.head.columns) T.cnd.head.columns)
      (apart_kept (pair_kinds (codes "first_edge") T.cnd.head.columns) T.cnd.head.columns apart.cnd) (λ t. refl);
  end = λ grid e. (
      let m : MadeOf T plan t grid = made_of T plan t grid e in
      subst (λ (grid : Grid). AreLike entity_roles (model_end (around_of c)) grid.head.columns) m.is
      (entities_like T plan tiles c apart cut t m.source m.there));
}

-- what a tile has, where it has something
if_some : (b : Bool) (tables made : PrimitiveTables) → Some tables ≡ cond b (Some made) None → made ≡ tables
if_some true tables made e = cc
if_some false tables made e = absurd (some_none tables e)
  where
    some_none : (tables : PrimitiveTables) → Some tables ≡ None → ⊥
    some_none tables e = cc

-- the tables that a tile has are those made of it
tables_are : (T : PrimitiveTables) (plan : ℕ → ℕ) (tiles : ℕ) (c : CoverageTables) → IsCutInto T plan tiles c → (t : ℕ) (tile : TileTables)
    → tile_at c t ≡ Some tile → tables_of_tile T plan t ≡ tile.tables
tables_are T plan tiles c cut t tile at =
    if_some (is_made (primitives_of T) plan tiles t) tile.tables (tables_of_tile T plan t)
    (sym (ap (option_map (λ (tile : TileTables). tile.tables)) at) ∙ cut.at t)

-- all tiles have their columns
pub columns_made : (T : PrimitiveTables) (plan : ℕ → ℕ) (tiles : ℕ) (c : CoverageTables) → HasColumns T → AreNamedApart T → IsCutInto T plan tiles c
    → HaveColumns c
columns_made T plan tiles c has apart cut = record {
  suit = λ t tile at. subst HasColumns (tables_are T plan tiles c cut t tile at) (made_columns T plan t has);
  like_first = λ t tile at. subst (ColumnsMatch (around_of c)) (tables_are T plan tiles c cut t tile at) (made_match T plan tiles c apart cut t);
}
