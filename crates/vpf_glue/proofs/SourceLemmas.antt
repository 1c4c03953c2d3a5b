-- What is so of the tables of a coverage, and of the rows that a glued coverage is made of.
use Rattle.std.proofs.Common.{[], ◌≡◌, ℕ, ◌^◌, ◌<◌, ◌≤◌, Bool, true, false, not, cond, eqb, refl, sym, ap, ◌∙◌, subst, inl, inr, arith, Option, Some, None, length}
use Rattle.std.specs.Option.{IsSomeAnd, option_and_then, option_map, unwrap_or}
use Rattle.std.specs.Prelude.{IfSome}
use Rattle.std.proofs.lemmas.Bool.{cases_Bool, cases_eq, eq-eqb}
use Rattle.std.proofs.lemmas.List.{length-map}
use Rattle.vpf_triplet.specs.declared.triplets.Triplet.{Triplet}
use Rattle.vpf_darts.specs.declared.darts.TileDart.{TileDart}
use Rattle.vpf_darts.specs.Darts.{edge_in, flip, tile_dart_code, tile_in}
use Rattle.vpf_findings.specs.declared.finding.TableName.TheVariants as names
use Rattle.vpf_table.specs.Grid.{Grid, Row}
use Rattle.vpf_prims.specs.Coverages.{CoverageTables, tile_at}
use Rattle.vpf_prims.specs.Libraries.{library_of, primitives_in}
use Rattle.vpf_prims.specs.Lists.{kth}
use Rattle.vpf_prims.specs.Numbering.{IsEdgeOf, IsFace, IsReference, IsRowOf}
use Rattle.vpf_prims.specs.Primitives.{EdgePrimitive, Library, absent_edge, edge_count, edges_in, face_count, faces_in, has_tables, is_there, node_count, nodes_in, tile_edges}
use Rattle.vpf_prims.specs.Reading.{PrimitiveTables, edge_in_row, face_in_row, node_in_row, primitives_of}
use Rattle.vpf_prims.specs.References.{id_of}
use Rattle.vpf_prims.specs.Tables.{TileTables, table_named}
use Rattle.vpf_wing.specs.Inner.DartLaws.{IsThere, flip-edge, flip-minus, flip-tile, has-there, minus-code, never_both, same_some}
use Rattle.vpf_wing.specs.Links.{edge_of_dart, face_by, is_minus, link_of, links_of, node_by, tail_node}
use Rattle.vpf_follow.specs.Following.{face_beyond, face_name, is_home}
use Rattle.vpf_follow.specs.Inner.FollowLaws.{home_has}
use Rattle.vpf_renumbering.specs.TilingLawsWhole.{whole_of}
use Rattle.vpf_glue.specs.GluedTables.Grids.{row_in}
use Rattle.vpf_glue.specs.Inner.GluedTables.Laws.{AreOfTiles}
use Rattle.vpf_glue.specs.Inner.Sources.{IsFaceThere, IsOfTile, IsRight, IsRowIn, table_in}
use Rattle.vpf_renumbering.specs.Inner.GluedEdges.FaceLaws.{tile_is, edge_is}
use Rattle.vpf_wing.specs.Inner.NumberLaws.{reference_row}

-- ---- rows of tables

-- what is known of a row of a table of a tile
pub record IsRowThere (table : PrimitiveTables → Grid) (c : CoverageTables) (t k : ℕ) (row : Row) : Type 0 where
  pub T : TileTables
  pub at : tile_at c t ≡ Some T
  pub found : IsRowIn (table T.tables) k row

-- such a row is that of the tile
pub row_is : (table : PrimitiveTables → Grid) (c : CoverageTables) (t k : ℕ) (row : Row) → IsRowThere table c t k row → row ≡ row_in table c t k
row_is table c t k row r =
    r.found.is ∙ sym (ap (λ (o : Option TileTables). unwrap_or (option_map (λ (T : TileTables). kth (table T.tables).rows k []) o) []) r.at)

-- where its table is like another tile's
pub like_there : (table : PrimitiveTables → Grid) (c : CoverageTables) (t k : ℕ) (row : Row) (like : Grid) → IsRight c → (r : IsRowThere table c t k row)
    → IsOfTile (λ T. Some (table T)) c like → AreOfTiles (λ T. Some (table T)) c like (table r.T.tables)
like_there table c t k row like right r of = record {
  library = right.library;
  columns = right.columns;
  tile = of.tile;
  T = of.T;
  has = of.has;
  table = of.table;
  apart = of.sound.distinct;
  other = t;
  U = r.T;
  has_other = r.at;
  table_there = refl;
  apart_there = r.found.sound.distinct;
}

-- or where it is a row of that very table
pub like_own : (table : PrimitiveTables → Grid) (c : CoverageTables) (like : Grid) → IsRight c → IsOfTile (λ T. Some (table T)) c like → AreOfTiles (λ T. Some (table T)) c like like
like_own table c like right of = record {
  library = right.library;
  columns = right.columns;
  tile = of.tile;
  T = of.T;
  has = of.has;
  table = of.table;
  apart = of.sound.distinct;
  other = of.tile;
  U = of.T;
  has_other = of.has;
  table_there = of.table;
  apart_there = of.sound.distinct;
}

-- a tile's table of faces has the universe
pub universe_listed : (c : CoverageTables) (like : Grid) → IsRight c → IsOfTile (λ T. Some T.fac) c like → IsRowOf (length like.rows) 1
universe_listed c like right of =
    let there : has_tables (library_of c) of.tile ≡ true = ap (λ (o : Option TileTables). is_there (primitives_in o)) of.has in
    let some : 1 ≤ face_count (library_of c) of.tile = (right.numbered of.tile there).universe in
    let count : face_count (library_of c) of.tile ≡ length like.rows =
    ap (λ (o : Option TileTables). length (faces_in (primitives_in o))) of.has
    ∙ length-map of.T.tables.fac.rows (face_in_row of.T.tables.fac.head.columns) ∙ ap (λ (g : Grid). length g.rows) (same_some of.T.tables.fac like of.table) in
    (omega arith, omega arith)

-- a row of edges that is found in a tile
pub edge_found : (o : Option TileTables) (k : ℕ) (row : Row) → IsSomeAnd (option_and_then (λ (T : TileTables). table_named T names.Edg) o) (λ grid. IsRowIn grid k row)
    → (T : TileTables) × ((o ≡ Some T) × IsRowIn T.tables.edg k row)
edge_found None k row h = absurd h
edge_found (Some T) k row h = (T, (refl, h))

pub edge_there : (c : CoverageTables) (t k : ℕ) (row : Row) → IsSomeAnd (table_in c t names.Edg) (λ grid. IsRowIn grid k row) → IsRowThere (λ T. T.edg) c t k row
edge_there c t k row h = let f = edge_found (tile_at c t) k row h in record { T = f.0; at = f.1.0; found = f.1.1 }

-- of faces
pub face_found : (o : Option TileTables) (k : ℕ) (row : Row) → IsSomeAnd (option_and_then (λ (T : TileTables). table_named T names.Fac) o) (λ grid. IsRowIn grid k row)
    → (T : TileTables) × ((o ≡ Some T) × IsRowIn T.tables.fac k row)
face_found None k row h = absurd h
face_found (Some T) k row h = (T, (refl, h))

pub face_there : (c : CoverageTables) (t k : ℕ) (row : Row) → IsSomeAnd (table_in c t names.Fac) (λ grid. IsRowIn grid k row) → IsRowThere (λ T. T.fac) c t k row
face_there c t k row h = let f = face_found (tile_at c t) k row h in record { T = f.0; at = f.1.0; found = f.1.1 }

-- of nodes
pub node_found : (o : Option TileTables) (k : ℕ) (row : Row) → IsSomeAnd (option_and_then (λ (T : TileTables). table_named T names.Cnd) o) (λ grid. IsRowIn grid k row)
    → (T : TileTables) × ((o ≡ Some T) × IsRowIn T.tables.cnd k row)
node_found None k row h = absurd h
node_found (Some T) k row h = (T, (refl, h))

pub node_there : (c : CoverageTables) (t k : ℕ) (row : Row) → IsSomeAnd (table_in c t names.Cnd) (λ grid. IsRowIn grid k row) → IsRowThere (λ T. T.cnd) c t k row
node_there c t k row h = let f = node_found (tile_at c t) k row h in record { T = f.0; at = f.1.0; found = f.1.1 }

-- ---- which rows there are

pub edge_listed : (o : Option TileTables) (k : ℕ) → IsRowOf (length (edges_in (primitives_in o))) k
    → IsSomeAnd (option_and_then (λ (T : TileTables). table_named T names.Edg) o) (λ grid. IsRowOf (length grid.rows) k)
edge_listed None k r = let low : 1 ≤ k = r.0 in let high : k ≤ 0 = r.1 in absurd (omega arith)
edge_listed (Some T) k r = subst (λ n. IsRowOf n k) (length-map T.tables.edg.rows (edge_in_row T.tables.edg.head.columns)) r

pub face_listed : (o : Option TileTables) (k : ℕ) → IsRowOf (length (faces_in (primitives_in o))) k
    → IsSomeAnd (option_and_then (λ (T : TileTables). table_named T names.Fac) o) (λ grid. IsRowOf (length grid.rows) k)
face_listed None k r = let low : 1 ≤ k = r.0 in let high : k ≤ 0 = r.1 in absurd (omega arith)
face_listed (Some T) k r = subst (λ n. IsRowOf n k) (length-map T.tables.fac.rows (face_in_row T.tables.fac.head.columns)) r

pub node_listed : (o : Option TileTables) (k : ℕ) → IsRowOf (length (nodes_in (primitives_in o))) k
    → IsSomeAnd (option_and_then (λ (T : TileTables). table_named T names.Cnd) o) (λ grid. IsRowOf (length grid.rows) k)
node_listed None k r = let low : 1 ≤ k = r.0 in let high : k ≤ 0 = r.1 in absurd (omega arith)
node_listed (Some T) k r = subst (λ n. IsRowOf n k) (length-map T.tables.cnd.rows (node_in_row T.tables.cnd.head.columns)) r

-- ---- darts of tiles

pub sign_is : (d : TileDart) → is_minus (tile_dart_code d) ≡ d.minus
sign_is d = minus-code d.tile d.edge d.minus

-- the edge of a home dart is one of its tile
pub row_of_home : (L : Library) (x : ℕ) → is_home (links_of L) x ≡ true → IsRowOf (edge_count L (tile_in x)) (edge_in x)
row_of_home L x home = let i : IsThere L x = has-there L x (home_has (links_of L) x home) in (i.from_one, i.to_count)

pub row_of_dart : (L : Library) (d : TileDart) → d.edge < 2 ^ 32 → is_home (links_of L) (tile_dart_code d) ≡ true → IsRowOf (edge_count L d.tile) d.edge
row_of_dart L d few home =
    subst (λ t. IsRowOf (edge_count L t) d.edge) (tile_is d few)
    (subst (λ k. IsRowOf (edge_count L (tile_in (tile_dart_code d))) k) (edge_is d few) (row_of_home L (tile_dart_code d) home))

-- a tile with rows of edges has tables
edges_tables : (o : Option TileTables) (k : ℕ) → IsRowOf (length (edges_in (primitives_in o))) k → (T : TileTables) × (o ≡ Some T)
edges_tables None k r = let low : 1 ≤ k = r.0 in let high : k ≤ 0 = r.1 in absurd (omega arith)
edges_tables (Some T) k r = (T, refl)

pub no_tables : (o : Option TileTables) (k : ℕ) → IsRowOf (length (edges_in (primitives_in o))) k → o ≡ None → ⊥
no_tables None k r h = let low : 1 ≤ k = r.0 in let high : k ≤ 0 = r.1 in absurd (omega arith)
no_tables (Some T) k r h = absurd cc

pub tables_of_row : (c : CoverageTables) (t k : ℕ) → IsRowOf (edge_count (library_of c) t) k → has_tables (library_of c) t ≡ true
tables_of_row c t k r = let T = edges_tables (tile_at c t) k r in ap (λ (o : Option TileTables). is_there (primitives_in o)) T.1

-- the row of an edge names what is there
pub named_there : (c : CoverageTables) → IsRight c → (t k : ℕ) → IsRowOf (edge_count (library_of c) t) k
    → IsEdgeOf (library_of c) t k (kth (tile_edges (library_of c) t) k absent_edge)
named_there c right t k r = (right.numbered t (tables_of_row c t k r)).edges k r

-- ---- nodes

node_reference : (L : Library) (t k : ℕ) (e : EdgePrimitive) (m : Bool) → IsEdgeOf L t k e → IsReference L (node_count L) t (node_by m e)
node_reference L t k e true i = i.start_node
node_reference L t k e false i = i.end_node

-- the node where a home dart begins is one of its tile
pub tail_row : (c : CoverageTables) → IsRight c → (x : ℕ) → is_home (links_of (library_of c)) x ≡ true
    → IsRowOf (node_count (library_of c) (tile_in x)) (tail_node (links_of (library_of c)) x)
tail_row c right x home =
    let L : Library = library_of c in
    let m : Bool = is_minus (flip x) in
    let r : IsRowOf (edge_count (library_of c) (tile_in (flip x))) (edge_in (flip x)) =
    subst (λ t. IsRowOf (edge_count (library_of c) t) (edge_in (flip x))) (sym (flip-tile x))
    (subst (λ k. IsRowOf (edge_count (library_of c) (tile_in x)) k) (sym (flip-edge x)) (row_of_home (library_of c) x home)) in
    let named = named_there c right (tile_in (flip x)) (edge_in (flip x)) r in
    subst (λ t. IsRowOf (node_count (library_of c) t) (tail_node (links_of (library_of c)) x)) (flip-tile x)
    (reference_row (library_of c) (node_count (library_of c)) (tile_in (flip x)) (node_by (is_minus (flip x)) (edge_of_dart (library_of c) (flip x)))
    (node_reference (library_of c) (tile_in (flip x)) (edge_in (flip x)) (edge_of_dart (library_of c) (flip x)) (is_minus (flip x)) named))

-- it is told by the row of its edge
pub tail_is : (c : CoverageTables) (d : TileDart) (T : TileTables) → d.edge < 2 ^ 32 → tile_at c d.tile ≡ Some T → (m : Bool) → not d.minus ≡ m
    → tail_node (links_of (library_of c)) (tile_dart_code d) ≡ id_of (node_by m (kth (primitives_of T.tables).edges d.edge absent_edge))
tail_is c d T few at m e =
    let x : ℕ = tile_dart_code d in
    ap (λ b. id_of (node_by b (edge_of_dart (library_of c) (flip (tile_dart_code d))))) (flip-minus (tile_dart_code d) ∙ ap not (sign_is d) ∙ e)
    ∙ ap (λ t. id_of (node_by m (kth (edges_in (primitives_in (tile_at c t))) (edge_in (flip (tile_dart_code d))) absent_edge))) (flip-tile (tile_dart_code d) ∙ tile_is d few)
    ∙ ap (λ k. id_of (node_by m (kth (edges_in (primitives_in (tile_at c d.tile))) k absent_edge))) (flip-edge (tile_dart_code d) ∙ edge_is d few)
    ∙ ap (λ (o : Option TileTables). id_of (node_by m (kth (edges_in (primitives_in o)) d.edge absent_edge))) at

-- ---- faces

face_reference : (L : Library) (t k : ℕ) (e : EdgePrimitive) (m : Bool) → IsEdgeOf L t k e → IsFace L t (face_by m e)
face_reference L t k e true i = i.left_face
face_reference L t k e false i = i.right_face

plain_face : (L : Library) (t n : ℕ) (b : Bool) → eqb n 1 ≡ b → IsRowOf (face_count L t) n → IfSome (cond b None (Some (record { tile = t; id = n }))) (IsFaceThere L)
plain_face L t n true e r = tt
plain_face L t n false e r = elim (cases_eq n 1) [
  | inl one ↦ absurd (never_both (eqb n 1) (eq-eqb n 1 one) e)
  | inr ne ↦ (let low : 1 ≤ n = r.0 in record { row = r; other = omega arith })
]

cross_face : (L : Library) (t n tile ext : ℕ) → Some n ≡ Some 1 → 2 ≤ ext → ext ≤ face_count L tile
    → IfSome (cond (eqb n 1) (Some (record { tile = tile; id = ext })) (Some (record { tile = t; id = n }))) (IsFaceThere L)
cross_face L t n tile ext one low high =
    let e : n ≡ 1 = same_some n 1 one in
    rw e (record { row = (omega arith, high); other = low })

-- the face that a row names is there, or is the universe
face_beyond_there : (L : Library) (t : ℕ) (r : Triplet) → IsFace L t r → IfSome (face_beyond t (link_of r)) (IsFaceThere L)
face_beyond_there L t r (inl i) =
    subst (λ (x : Triplet). IfSome (face_beyond t (link_of x)) (IsFaceThere L)) (sym i.is) (plain_face L t i.id (eqb i.id 1) refl (i.from_low, i.to_last))
face_beyond_there L t r (inr c) =
    subst (λ (x : Triplet). IfSome (face_beyond t (link_of x)) (IsFaceThere L)) (sym c.0.is)
    (cross_face L t c.0.id c.0.tile c.0.ext (sym (ap (λ (x : Triplet). x.id) c.0.is) ∙ c.1) c.0.from_low c.0.to_last)

home_face_there : (c : CoverageTables) → IsRight c → (x : ℕ) → is_home (links_of (library_of c)) x ≡ true
    → IfSome (face_name (links_of (library_of c)) x) (IsFaceThere (library_of c))
home_face_there c right x home =
    face_beyond_there (library_of c) (tile_in x) (face_by (is_minus x) (edge_of_dart (library_of c) x))
    (face_reference (library_of c) (tile_in x) (edge_in x) (edge_of_dart (library_of c) x) (is_minus x) (named_there c right (tile_in x) (edge_in x) (row_of_home (library_of c) x home)))

pub side_there : (c : CoverageTables) → IsRight c → (x : ℕ) → IfSome ((whole_of (library_of c)).face x) (IsFaceThere (library_of c))
side_there c right x = elim (cases_Bool (is_home (links_of (library_of c)) x)) [
  | inl home ↦ rw home (home_face_there c right x home)
  | inr away ↦ rw away tt
]
