-- Rows of tiles by their numbers, and what they say.
use Rattle.std.proofs.Common.{[], ◌≡◌, ℕ, true, length, Option, Some, None, refl, ap, ◌∙◌, subst, arith}
use Rattle.std.specs.Option.{option_map, unwrap_or}
use Rattle.std.proofs.lemmas.List.{length-map}
use Rattle.vpf_table.specs.Grid.{Grid, Row}
use Rattle.vpf_prims.specs.Coverages.{CoverageTables, tile_at}
use Rattle.vpf_prims.specs.Inner.Laws.{IsFilled}
use Rattle.vpf_prims.specs.Libraries.{library_of, primitives_in}
use Rattle.vpf_prims.specs.Lists.{kth}
use Rattle.vpf_prims.specs.Numbering.{IsRowOf}
use Rattle.vpf_prims.specs.Primitives.{absent_edge, absent_face, absent_node, edge_count, edges_in, face_count, faces_in, has_tables, is_there, node_count, nodes_in, tile_edges, tile_faces, tile_nodes}
use Rattle.vpf_prims.specs.Reading.{PrimitiveTables, edge_in_row, face_in_row, node_in_row}
use Rattle.vpf_prims.specs.Tables.{TileTables}
use Rattle.vpf_library_files.specs.Inner.Loading.Laws.{IsNamedApart}
use Rattle.vpf_cross.specs.CarriedLines.{first_tile}
use Rattle.vpf_primitive_tables.specs.Inner.TileReading.NumberLaws.{kth_has, kth_map}
use Rattle.vpf_glue.specs.GluedTables.Grids.{first_tables, row_in}
use Rattle.vpf_glue.specs.Inner.GluedTables.Laws.{AreOfTiles}
use Rattle.vpf_glue.specs.Inner.GluedReading.Laws.{AreJoined}

-- the tables of the first tile
pub record IsFirst (c : CoverageTables) (first : PrimitiveTables) : Type 0 where
  pub T : TileTables
  pub at : tile_at c (first_tile (library_of c)) ≡ Some T
  pub is : T.tables ≡ first

first_by : (c : CoverageTables) (first : PrimitiveTables) (o : Option TileTables) → tile_at c (first_tile (library_of c)) ≡ o
    → option_map (λ (T : TileTables). T.tables) o ≡ Some first → IsFirst c first
first_by c first None e f = absurd cc
first_by c first (Some T) e f = record { T = T; at = e; is = cc }

pub first_is : (c : CoverageTables) (first : PrimitiveTables) → first_tables c ≡ Some first → IsFirst c first
first_is c first e = first_by c first (tile_at c (first_tile (library_of c))) refl e

-- a row of a table of a tile, by its number
pub record IsThere (of : PrimitiveTables → Grid) (c : CoverageTables) (t k : ℕ) : Type 0 where
  pub T : TileTables
  pub at : tile_at c t ≡ Some T
  pub row : IsRowOf (length (of T.tables).rows) k

no_row : {P : Type 0} (k : ℕ) → IsRowOf 0 k → P
no_row k r = (let low = r.0 in let high = r.1 in absurd (omega arith))

edge_by : (c : CoverageTables) (t k : ℕ) (o : Option TileTables) → tile_at c t ≡ o → IsRowOf (length (edges_in (primitives_in o))) k → IsThere (λ (T : PrimitiveTables). T.edg) c t k
edge_by c t k None e r = no_row k r
edge_by c t k (Some T) e r =
    record { T = T; at = e; row = subst (λ (n : ℕ). IsRowOf n k) (length-map T.tables.edg.rows (edge_in_row T.tables.edg.head.columns)) r }

pub edge_there : (c : CoverageTables) (t k : ℕ) → IsRowOf (edge_count (library_of c) t) k → IsThere (λ (T : PrimitiveTables). T.edg) c t k
edge_there c t k r = edge_by c t k (tile_at c t) refl r

face_by : (c : CoverageTables) (t k : ℕ) (o : Option TileTables) → tile_at c t ≡ o → IsRowOf (length (faces_in (primitives_in o))) k → IsThere (λ (T : PrimitiveTables). T.fac) c t k
face_by c t k None e r = no_row k r
face_by c t k (Some T) e r =
    record { T = T; at = e; row = subst (λ (n : ℕ). IsRowOf n k) (length-map T.tables.fac.rows (face_in_row T.tables.fac.head.columns)) r }

pub face_there : (c : CoverageTables) (t k : ℕ) → IsRowOf (face_count (library_of c) t) k → IsThere (λ (T : PrimitiveTables). T.fac) c t k
face_there c t k r = face_by c t k (tile_at c t) refl r

node_by_number : (c : CoverageTables) (t k : ℕ) (o : Option TileTables) → tile_at c t ≡ o → IsRowOf (length (nodes_in (primitives_in o))) k → IsThere (λ (T : PrimitiveTables). T.cnd) c t k
node_by_number c t k None e r = no_row k r
node_by_number c t k (Some T) e r =
    record { T = T; at = e; row = subst (λ (n : ℕ). IsRowOf n k) (length-map T.tables.cnd.rows (node_in_row T.tables.cnd.head.columns)) r }

pub node_there : (c : CoverageTables) (t k : ℕ) → IsRowOf (node_count (library_of c) t) k → IsThere (λ (T : PrimitiveTables). T.cnd) c t k
node_there c t k r = node_by_number c t k (tile_at c t) refl r

-- the row itself
pub row_is : (of : PrimitiveTables → Grid) (c : CoverageTables) (t k : ℕ) (i : IsThere of c t k) → row_in of c t k ≡ kth (of i.T.tables).rows k []
row_is of c t k i = ap (λ (o : Option TileTables). unwrap_or (option_map (λ (T : TileTables). kth (of T.tables).rows k []) o) []) i.at

-- is whole
pub row_whole : (grid : Grid) (k : ℕ) → IsFilled grid → IsRowOf (length grid.rows) k → length (kth grid.rows k []) ≡ length grid.head.columns
row_whole grid k filled r = kth_has (λ (row : Row). length row ≡ length grid.head.columns) grid.rows k [] filled r

-- what it says
pub edge_read : (c : CoverageTables) (t k : ℕ) (i : IsThere (λ (T : PrimitiveTables). T.edg) c t k)
    → kth (tile_edges (library_of c) t) k absent_edge ≡ edge_in_row i.T.tables.edg.head.columns (kth i.T.tables.edg.rows k [])
edge_read c t k i =
    ap (λ (o : Option TileTables). kth (edges_in (primitives_in o)) k absent_edge) i.at
    ∙ kth_map (edge_in_row i.T.tables.edg.head.columns) i.T.tables.edg.rows k [] absent_edge i.row

pub face_read : (c : CoverageTables) (t k : ℕ) (i : IsThere (λ (T : PrimitiveTables). T.fac) c t k)
    → kth (tile_faces (library_of c) t) k absent_face ≡ face_in_row i.T.tables.fac.head.columns (kth i.T.tables.fac.rows k [])
face_read c t k i =
    ap (λ (o : Option TileTables). kth (faces_in (primitives_in o)) k absent_face) i.at
    ∙ kth_map (face_in_row i.T.tables.fac.head.columns) i.T.tables.fac.rows k [] absent_face i.row

pub node_read : (c : CoverageTables) (t k : ℕ) (i : IsThere (λ (T : PrimitiveTables). T.cnd) c t k)
    → kth (tile_nodes (library_of c) t) k absent_node ≡ node_in_row i.T.tables.cnd.head.columns (kth i.T.tables.cnd.rows k [])
node_read c t k i =
    ap (λ (o : Option TileTables). kth (nodes_in (primitives_in o)) k absent_node) i.at
    ∙ kth_map (node_in_row i.T.tables.cnd.head.columns) i.T.tables.cnd.rows k [] absent_node i.row

-- the tile has tables
pub tables_there : (c : CoverageTables) (t : ℕ) (T : TileTables) → tile_at c t ≡ Some T → has_tables (library_of c) t ≡ true
tables_there c t T at = ap (λ (o : Option TileTables). is_there (primitives_in o)) at

-- ---- the first tile and another

-- their tables of edges
pub edges_of : (c : CoverageTables) (first : PrimitiveTables) → AreJoined c first → (t : ℕ) (T : TileTables) → tile_at c t ≡ Some T
    → AreOfTiles (λ (T : PrimitiveTables). Some T.edg) c first.edg T.tables.edg
edges_of c first j t T at =
    let f = first_is c first j.tables in
    record {
      library = j.agrees.library;
      columns = j.columns;
      tile = first_tile (library_of c);
      T = f.T;
      has = f.at;
      table = ap (λ (T : PrimitiveTables). Some T.edg) f.is;
      apart = subst (λ (T : PrimitiveTables). IsNamedApart T.edg) f.is (j.whole (first_tile (library_of c)) f.T f.at).1.edg;
      other = t;
      U = T;
      has_other = at;
      table_there = refl;
      apart_there = (j.whole t T at).1.edg;
    }

-- their tables of faces
pub faces_of : (c : CoverageTables) (first : PrimitiveTables) → AreJoined c first → (t : ℕ) (T : TileTables) → tile_at c t ≡ Some T
    → AreOfTiles (λ (T : PrimitiveTables). Some T.fac) c first.fac T.tables.fac
faces_of c first j t T at =
    let f = first_is c first j.tables in
    record {
      library = j.agrees.library;
      columns = j.columns;
      tile = first_tile (library_of c);
      T = f.T;
      has = f.at;
      table = ap (λ (T : PrimitiveTables). Some T.fac) f.is;
      apart = subst (λ (T : PrimitiveTables). IsNamedApart T.fac) f.is (j.whole (first_tile (library_of c)) f.T f.at).1.fac;
      other = t;
      U = T;
      has_other = at;
      table_there = refl;
      apart_there = (j.whole t T at).1.fac;
    }

-- their tables of nodes
pub nodes_of : (c : CoverageTables) (first : PrimitiveTables) → AreJoined c first → (t : ℕ) (T : TileTables) → tile_at c t ≡ Some T
    → AreOfTiles (λ (T : PrimitiveTables). Some T.cnd) c first.cnd T.tables.cnd
nodes_of c first j t T at =
    let f = first_is c first j.tables in
    record {
      library = j.agrees.library;
      columns = j.columns;
      tile = first_tile (library_of c);
      T = f.T;
      has = f.at;
      table = ap (λ (T : PrimitiveTables). Some T.cnd) f.is;
      apart = subst (λ (T : PrimitiveTables). IsNamedApart T.cnd) f.is (j.whole (first_tile (library_of c)) f.T f.at).1.cnd;
      other = t;
      U = T;
      has_other = at;
      table_there = refl;
      apart_there = (j.whole t T at).1.cnd;
    }
