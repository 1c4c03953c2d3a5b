-- The tables of a tile have no finding on columns, ids, references and marks exactly where they have their columns and are numbered.
use Rattle.std.proofs.Common.{◌≡◌, ◌∙◌, ℕ, ◌≤◌, List, [], ◌∷◌, length, Option, Some, None, refl, sym, ap, subst, arith}
use Rattle.std.specs.Prelude.{◌↔◌, codes, if◌then◌else◌, ◌==◌}
use Rattle.std.specs.Option.{option_map, unwrap_or}
use Rattle.std.proofs.lemmas.List.{length-map}
use Rattle.vpf_base.specs.Limits.{most_rows}
use Rattle.vpf_triplet.specs.declared.triplets.Triplet.{Triplet}
use Rattle.vpf_head.specs.Head.{Col}
use Rattle.vpf_table.specs.Grid.{Row, Grid}
use Rattle.vpf_findings.specs.Findings.{Disagreement}
use Rattle.vpf_findings.specs.Firsts.{◌or◌, first_of_rows}
use Rattle.vpf_prims.specs.declared.placing.TableAt.{TableAt}
use Rattle.vpf_prims.specs.declared.edges.Ranges.{Ranges}
use Rattle.vpf_prims.specs.Roles.{Role, number_role, reference_role, edge_roles, face_roles, ring_roles, node_roles, entity_roles}
use Rattle.vpf_prims.specs.Columns.{RoleAt, id_column, reference_column}
use Rattle.vpf_prims.specs.References.{reference_in, cell_at}
use Rattle.vpf_prims.specs.Edges.{edge_columns}
use Rattle.vpf_prims.specs.Primitives.{Library, Primitives, absent_edge, absent_face, absent_ring, absent_node, absent_entity, edge_count, edges_in, entities_in, face_count, faces_in, node_count, nodes_in, ring_count, rings_in}
use Rattle.vpf_prims.specs.Reading.{PrimitiveTables, primitives_of, rows_said, edge_in_row, face_in_row, ring_in_row, node_in_row, entity_in_row}
use Rattle.vpf_prims.specs.Suiting.{HasColumns, carried_columns}
use Rattle.vpf_prims.specs.Numbering.{IsRowOf, IsPlain, IsNumbered, IsEdgeOf, IsFaceOf, IsRingOf, IsNodeOf, IsEntityOf}
use Rattle.vpf_prims.specs.Lines.{id_line, no_rows_line}
use Rattle.vpf_prims.specs.Lists.{kth}
use Rattle.vpf_prims.specs.Tables.{TileTables, edg_at, fac_at, rng_at, cnd_at, entities_at}
use Rattle.vpf_numbers.specs.Around.{Around, edges_around, model_cnd, model_edg, model_end, model_fac, model_rng, nodes_around, tables_around}
use Rattle.vpf_numbers.specs.ColumnLines.{bare_line, beside_finding, role_lines, roles_finding}
use Rattle.vpf_numbers.specs.Matching.{AreLike, ColumnsMatch}
use Rattle.vpf_numbers.specs.RowLines.{cross_lines, edge_end_lines, edge_row_lines, edge_side_lines, entity_row_lines, face_lines, face_row_lines, mark_line, node_row_lines, reference_lines, ring_row_lines}
use Rattle.vpf_numbers.specs.TableLines.{cnd_finding, edg_finding, entities_finding, fac_finding, face_columns_finding, numbers_finding, own_ranges, rng_finding}
use Rattle.vpf_numbers.proofs.NumbersLines.{through, or_decides, id_decides, plain_decides, mark_decides}
use Rattle.vpf_numbers.proofs.NumbersBeyond.{IsSeen, cross_decides, edges_seen, face_decides, nodes_seen}
use Rattle.vpf_numbers.proofs.NumbersColumns.{Suits, are_like, bare_decides, beside_decides, role_decides, roles_decide, rows_there}
use Rattle.vpf_numbers.proofs.NumbersRows.{rows_decide}

plain_counted : (low last count : ℕ) (r : Triplet) → last ≡ count → IsPlain low last r ↔ IsPlain low count r
plain_counted low last count r e = (subst (λ (n : ℕ). IsPlain low n r) e, subst (λ (n : ℕ). IsPlain low n r) (sym e))

counted_decides : (at : TableAt) (low last count k : ℕ) (column : RoleAt) (row : Row) → last ≡ count
    → (reference_lines at low last k column row ≡ None) ↔ IsPlain low count (reference_in (cell_at row column.place))
counted_decides at low last count k column row e =
    through (plain_decides at low last k column row) (plain_counted low last count (reference_in (cell_at row column.place)) e)

-- the lines on a row of edges
edge_decides : (A : Around) (L : Library) → IsSeen A L → (at : TableAt) (columns : List Col) (most : Ranges) → most.nodes ≡ node_count L at.tile
    → most.faces ≡ face_count L at.tile → most.edges ≡ edge_count L at.tile → (k : ℕ) (row : Row) → 1 ≤ k
    → (edge_row_lines A (edge_columns at columns) most k row ≡ None) ↔ IsEdgeOf L at.tile k (edge_in_row columns row)
edge_decides A L seen at columns most nodes faces edges k row low =
    let place = edge_columns at columns in
    let node_at = λ (column : RoleAt). cross_decides at A L seen (nodes_around A) (node_count L) (nodes_seen A L seen) most.nodes k column row nodes in
    let face_at = λ (column : RoleAt). face_decides at A L seen most.faces k column row faces in
    let wing_at = λ (column : RoleAt). cross_decides at A L seen (edges_around A) (edge_count L) (edges_seen A L seen) most.edges k column row edges in
    through
    (or_decides (id_line at k place.id row) _ (id_decides at k place.id row low)
    (or_decides (edge_end_lines A place most.nodes k row) _
    (or_decides (cross_lines at A (nodes_around A) most.nodes k place.start_node row) _ (node_at place.start_node) (node_at place.end_node))
    (or_decides (edge_side_lines A place most.faces k row) _
    (or_decides (face_lines at A most.faces k place.right_face row) _ (face_at place.right_face) (face_at place.left_face))
    (or_decides (cross_lines at A (edges_around A) most.edges k place.right_edge row) _ (wing_at place.right_edge)
    (or_decides (cross_lines at A (edges_around A) most.edges k place.left_edge row) (mark_line at k place.tile_line row) (wing_at place.left_edge)
    (mark_decides at k place.tile_line row)))))) (
      λ h. record {
        id = h.0;
        start_node = h.1.0.0;
        end_node = h.1.0.1;
        right_face = h.1.1.0.0;
        left_face = h.1.1.0.1;
        right_edge = h.1.1.1.0;
        left_edge = h.1.1.1.1.0;
        mark = h.1.1.1.1.1;
      },
      λ e. (e.id, ((e.start_node, e.end_node), ((e.right_face, e.left_face), (e.right_edge, (e.left_edge, e.mark))))),
    )

-- on a row of faces
face_row : (L : Library) (at : TableAt) (columns : List Col) (rings : ℕ) → rings ≡ ring_count L at.tile → (k : ℕ) (row : Row) → 1 ≤ k
    → (face_row_lines at columns rings k row ≡ None) ↔ IsFaceOf L at.tile k (face_in_row columns row)
face_row L at columns rings e k row low =
    let id = id_column columns in
    let ring = reference_column columns (codes "ring_ptr") in
    let from = if k == 1 then 0 else 1 in
    through
    (or_decides (id_line at k id row) (reference_lines at from rings k ring row) (id_decides at k id row low)
    (counted_decides at from rings (ring_count L at.tile) k ring row e))
    (λ h. record { id = h.0; ring_ptr = h.1 }, λ f. (f.id, f.ring_ptr))

-- on a row of rings
ring_row : (L : Library) (at : TableAt) (columns : List Col) (faces edges : ℕ) → faces ≡ face_count L at.tile → edges ≡ edge_count L at.tile
    → (k : ℕ) (row : Row) → 1 ≤ k → (ring_row_lines at columns faces edges k row ≡ None) ↔ IsRingOf L at.tile k (ring_in_row columns row)
ring_row L at columns faces edges e f k row low =
    let id = id_column columns in
    let face = reference_column columns (codes "face_id") in
    let edge = reference_column columns (codes "start_edge") in
    through
    (or_decides (id_line at k id row) _ (id_decides at k id row low)
    (or_decides (reference_lines at 1 faces k face row) (reference_lines at 1 edges k edge row)
    (counted_decides at 1 faces (face_count L at.tile) k face row e)
    (counted_decides at 1 edges (edge_count L at.tile) k edge row f)))
    (λ h. record { id = h.0; face = h.1.0; start_edge = h.1.1 }, λ r. (r.id, (r.face, r.start_edge)))

-- on a row of connected nodes
node_row : (L : Library) (at : TableAt) (columns : List Col) (edges : ℕ) → edges ≡ edge_count L at.tile
    → (k : ℕ) (row : Row) → 1 ≤ k → (node_row_lines at columns edges k row ≡ None) ↔ IsNodeOf L at.tile k (node_in_row columns row)
node_row L at columns edges e k row low =
    let id = id_column columns in
    let edge = reference_column columns (codes "first_edge") in
    through
    (or_decides (id_line at k id row) (reference_lines at 1 edges k edge row) (id_decides at k id row low)
    (counted_decides at 1 edges (edge_count L at.tile) k edge row e))
    (λ h. record { id = h.0; first_edge = h.1 }, λ n. (n.id, n.first_edge))

-- on a row of entity nodes
entity_row : (L : Library) (at : TableAt) (columns : List Col) (faces : ℕ) → faces ≡ face_count L at.tile
    → (k : ℕ) (row : Row) → 1 ≤ k → (entity_row_lines at columns faces k row ≡ None) ↔ IsEntityOf L at.tile k (entity_in_row columns row)
entity_row L at columns faces e k row low =
    let id = id_column columns in
    let face = reference_column columns (codes "containing_face") in
    through
    (or_decides (id_line at k id row) (reference_lines at 1 faces k face row) (id_decides at k id row low)
    (counted_decides at 1 faces (face_count L at.tile) k face row e))
    (λ h. record { id = h.0; containing_face = h.1 }, λ n. (n.id, n.containing_face))

-- the rows that are read of a table, by their numbers
abbrev pub Each : {R : Type 0} → (Is : ℕ → R → Type 0) → List R → R → Type 0
Each Is rows absent = (k : ℕ) → IsRowOf (length rows) k → Is k (kth rows k absent)

-- columns by their roles, and by what they are to be like
grouped : {S K B A E : Type 0} → ((K × B) ↔ A) → ((S × K) × (B × E)) ↔ ((S × A) × E)
grouped f = (λ h. ((h.0.0, f.0 (h.0.1, h.1.0)), h.1.1), λ h. ((h.0.0, (f.1 h.0.1).0), ((f.1 h.0.1).1, h.1)))

-- a table of its roles, where its rows are each as they should be
abbrev Fits : List Role → List Col → Option (List Col) → Type 0
Fits roles columns model = Suits columns roles × AreLike roles model columns

table_decides : (at : TableAt) (roles : List Role) (columns : List Col) (model : Option (List Col)) (lines : ℕ → Row → Option Disagreement) (rows : List Row) (E : Type 0) → ((first_of_rows lines 1 rows ≡ None) ↔ E)
    → ((roles_finding at columns model roles or (beside_finding at roles columns model or first_of_rows lines 1 rows)) ≡ None) ↔ (Fits roles columns model × E)
table_decides at roles columns model lines rows E each =
    through
    (or_decides (roles_finding at columns model roles) _ (roles_decide at columns model roles)
    (or_decides (beside_finding at roles columns model) (first_of_rows lines 1 rows) (beside_decides at roles columns model) each))
    (grouped (are_like roles columns model))

edg_decides : (A : Around) (L : Library) → IsSeen A L → (t : ℕ) (T : TileTables) → length T.tables.cnd.rows ≡ node_count L t → length T.tables.fac.rows ≡ face_count L t → length T.tables.edg.rows ≡ edge_count L t
    → (edg_finding t A T ≡ None) ↔ (Fits edge_roles T.tables.edg.head.columns (model_edg A) × Each (IsEdgeOf L t) (rows_said edge_in_row T.tables.edg) absent_edge)
edg_decides A L seen t T nodes faces edges =
    let at = edg_at t T in
    let columns = T.tables.edg.head.columns in
    let most = own_ranges T.tables in
    table_decides at edge_roles columns (model_edg A) (edge_row_lines A (edge_columns at columns) most) T.tables.edg.rows _
    (rows_decide (edge_row_lines A (edge_columns at columns) most) (edge_in_row columns) (IsEdgeOf L t) absent_edge T.tables.edg.rows
    (edge_decides A L seen at columns most nodes faces edges))

-- the lines on the columns of faces, and on the universe
face_columns_decide : (at : TableAt) (columns : List Col) (model : Option (List Col)) (rows : List Row)
    → (face_columns_finding at columns model rows ≡ None) ↔ (Fits face_roles columns model × (1 ≤ length rows))
face_columns_decide at columns model rows =
    let id = number_role (codes "id") in
    let ring = reference_role (codes "ring_ptr") ∷ [] in
    through
    (or_decides (role_lines at columns model id) _ (role_decides at columns model id)
    (or_decides (no_rows_line at columns rows most_rows) _ (rows_there at columns rows most_rows)
    (or_decides (roles_finding at columns model ring) (beside_finding at face_roles columns model) (roles_decide at columns model ring) (beside_decides at face_roles columns model)))) (
      λ h. (((h.0.0, h.1.1.0.0), (are_like face_roles columns model).0 ((h.0.1, h.1.1.0.1), h.1.1.1)), h.1.0),
      λ g. let like = (are_like face_roles columns model).1 g.0.1 in ((g.0.0.0, like.0.0), (g.1, ((g.0.0.1, like.0.1), like.1))),
    )

fac_decides : (A : Around) (L : Library) (t : ℕ) (T : TileTables) → length T.tables.rng.rows ≡ ring_count L t
    → (fac_finding t A T ≡ None) ↔ ((Fits face_roles T.tables.fac.head.columns (model_fac A) × (1 ≤ length T.tables.fac.rows)) × Each (IsFaceOf L t) (rows_said face_in_row T.tables.fac) absent_face)
fac_decides A L t T rings =
    let at = fac_at t T in
    let columns = T.tables.fac.head.columns in
    let some = length T.tables.rng.rows in
    or_decides (face_columns_finding at columns (model_fac A) T.tables.fac.rows) _ (face_columns_decide at columns (model_fac A) T.tables.fac.rows)
    (rows_decide (face_row_lines at columns some) (face_in_row columns) (IsFaceOf L t) absent_face T.tables.fac.rows (face_row L at columns some rings))

-- the same where there are to be no columns without a role
bare_grouped : {S K N B A E : Type 0} → ((K × B) ↔ A) → ((S × K) × (N × (B × E))) ↔ ((S × A) × (N × E))
bare_grouped f = (λ h. ((h.0.0, f.0 (h.0.1, h.1.1.0)), (h.1.0, h.1.1.1)), λ h. ((h.0.0, (f.1 h.0.1).0), (h.1.0, ((f.1 h.0.1).1, h.1.1))))

rng_decides : (A : Around) (L : Library) (t : ℕ) (T : TileTables) → length T.tables.fac.rows ≡ face_count L t → length T.tables.edg.rows ≡ edge_count L t
    → (rng_finding t A T ≡ None)
    ↔ (Fits ring_roles T.tables.rng.head.columns (model_rng A) × ((carried_columns ring_roles T.tables.rng.head.columns ≡ []) × Each (IsRingOf L t) (rows_said ring_in_row T.tables.rng) absent_ring))
rng_decides A L t T faces edges =
    let at = rng_at t T in
    let columns = T.tables.rng.head.columns in
    let lines = ring_row_lines at columns (length T.tables.fac.rows) (length T.tables.edg.rows) in
    through
    (or_decides (roles_finding at columns (model_rng A) ring_roles) _ (roles_decide at columns (model_rng A) ring_roles)
    (or_decides (bare_line at (carried_columns ring_roles columns)) _ (bare_decides at (carried_columns ring_roles columns))
    (or_decides (beside_finding at ring_roles columns (model_rng A)) (first_of_rows lines 1 T.tables.rng.rows) (beside_decides at ring_roles columns (model_rng A))
    (rows_decide lines (ring_in_row columns) (IsRingOf L t) absent_ring T.tables.rng.rows (ring_row L at columns (length T.tables.fac.rows) (length T.tables.edg.rows) faces edges)))))
    (bare_grouped (are_like ring_roles columns (model_rng A)))

cnd_decides : (A : Around) (L : Library) (t : ℕ) (T : TileTables) → length T.tables.edg.rows ≡ edge_count L t
    → (cnd_finding t A T ≡ None) ↔ (Fits node_roles T.tables.cnd.head.columns (model_cnd A) × Each (IsNodeOf L t) (rows_said node_in_row T.tables.cnd) absent_node)
cnd_decides A L t T edges =
    let at = cnd_at t T in
    let columns = T.tables.cnd.head.columns in
    let lines = node_row_lines at columns (length T.tables.edg.rows) in
    table_decides at node_roles columns (model_cnd A) lines T.tables.cnd.rows _
    (rows_decide lines (node_in_row columns) (IsNodeOf L t) absent_node T.tables.cnd.rows (node_row L at columns (length T.tables.edg.rows) edges))

-- what holds of the table that there is holds of any that it is
of_some : (P : Grid → Type 0) (grid : Grid) → P grid ↔ ((other : Grid) → Some grid ≡ Some other → P other)
of_some P grid = (λ p other e. let same : grid ≡ other = cc in subst P same p, λ h. h grid refl)

first_through : {A B C : Type 0} → (A ↔ B) → (A × C) ↔ (B × C)
first_through f = (λ h. (f.0 h.0, h.1), λ h. (f.1 h.0, h.1))

abbrev EntitiesFit : Option (List Col) → Grid → Type 0
EntitiesFit model grid = Fits entity_roles grid.head.columns model

end_decides : (L : Library) (at : TableAt) (model : Option (List Col)) (faces : ℕ) (end : Option Grid) → faces ≡ face_count L at.tile
    → (entities_finding at model faces end ≡ None)
    ↔ (((grid : Grid) → end ≡ Some grid → EntitiesFit model grid) × Each (IsEntityOf L at.tile) (unwrap_or (option_map (rows_said entity_in_row) end) []) absent_entity)
end_decides L at model faces None e = (λ h. (λ grid e. absurd cc, λ k l. absurd (omega (arith, l.0, l.1))), λ h. refl)
end_decides L at model faces (Some grid) e =
    let columns = grid.head.columns in
    let lines = entity_row_lines at columns faces in
    through
    (table_decides at entity_roles columns model lines grid.rows _
    (rows_decide lines (entity_in_row columns) (IsEntityOf L at.tile) absent_entity grid.rows (entity_row L at columns faces e)))
    (first_through (of_some (EntitiesFit model) grid))

-- the rows of a tile that the library has
numbered_at : (L : Library) (t : ℕ) (c : Primitives) → L.tile t ≡ Some c → Each (IsEdgeOf L t) c.edges absent_edge → Each (IsFaceOf L t) c.faces absent_face → Each (IsRingOf L t) c.rings absent_ring
    → Each (IsNodeOf L t) c.nodes absent_node → Each (IsEntityOf L t) (entities_in (Some c)) absent_entity → 1 ≤ length c.faces → IsNumbered L t
numbered_at L t c is edges faces rings nodes entities universe = record {
  edges = subst (λ (o : Option Primitives). Each (IsEdgeOf L t) (edges_in o) absent_edge) (sym is) edges;
  faces = subst (λ (o : Option Primitives). Each (IsFaceOf L t) (faces_in o) absent_face) (sym is) faces;
  rings = subst (λ (o : Option Primitives). Each (IsRingOf L t) (rings_in o) absent_ring) (sym is) rings;
  nodes = subst (λ (o : Option Primitives). Each (IsNodeOf L t) (nodes_in o) absent_node) (sym is) nodes;
  entities = subst (λ (o : Option Primitives). Each (IsEntityOf L t) (entities_in o) absent_entity) (sym is) entities;
  universe = subst (λ (o : Option Primitives). 1 ≤ length (faces_in o)) (sym is) universe;
}

-- the tables of a tile of a coverage, by what its tables say
pub tile_seen : (A : Around) (L : Library) → IsSeen A L → (t : ℕ) (tables : PrimitiveTables) → tables_around A t ≡ Some tables → L.tile t ≡ Some (primitives_of tables)
tile_seen A L seen t tables here = seen.tiles t ∙ ap (option_map primitives_of) here

pub numbers_seen : (A : Around) (L : Library) → IsSeen A L → (t : ℕ) (T : TileTables) → tables_around A t ≡ Some T.tables
    → (numbers_finding t A T ≡ None) ↔ (HasColumns T.tables × ColumnsMatch A T.tables × IsNumbered L t)
unfolding numbers_finding
numbers_seen A L seen t T here =
    through
    (or_decides (edg_finding t A T) _ (edg_decides A L seen t T nodes faces edges)
    (or_decides (fac_finding t A T) _ (fac_decides A L t T rings)
    (or_decides (rng_finding t A T) _ (rng_decides A L t T faces edges)
    (or_decides (cnd_finding t A T) (entities_finding (entities_at t T) (model_end A) (length T.tables.fac.rows) T.tables.end) (cnd_decides A L t T edges)
    (end_decides L (entities_at t T) (model_end A) (length T.tables.fac.rows) T.tables.end faces))))) (
      λ h.
          let edg = h.0 in
          let fac = h.1.0 in
          let rng = h.1.1.0 in
          let cnd = h.1.1.1.0 in
          let end = h.1.1.1.1 in (
            record { edg = edg.0.0; fac = fac.0.0.0; rng = rng.0.0; cnd = cnd.0.0; end = λ grid e. (end.0 grid e).0; bare = rng.1.0 },
            record { edg = edg.0.1; fac = fac.0.0.1; rng = rng.0.1; cnd = cnd.0.1; end = λ grid e. (end.0 grid e).1 },
            numbered_at L t (primitives_of T.tables) is edg.1 fac.1 rng.1.1 cnd.1 end.1 (subst (λ (m : ℕ). 1 ≤ m) (sym (length-map T.tables.fac.rows (face_in_row T.tables.fac.head.columns))) fac.0.1),
          ),
      λ h.
          let columns = h.0 in
          let like = h.1 in
          let n = h.2 in (
            ((columns.edg, like.edg), subst (λ (o : Option Primitives). Each (IsEdgeOf L t) (edges_in o) absent_edge) is n.edges),
            (
              (((columns.fac, like.fac), subst (λ (m : ℕ). 1 ≤ m) (sym faces) n.universe), subst (λ (o : Option Primitives). Each (IsFaceOf L t) (faces_in o) absent_face) is n.faces),
              (
                ((columns.rng, like.rng), (columns.bare, subst (λ (o : Option Primitives). Each (IsRingOf L t) (rings_in o) absent_ring) is n.rings)),
                (
                  ((columns.cnd, like.cnd), subst (λ (o : Option Primitives). Each (IsNodeOf L t) (nodes_in o) absent_node) is n.nodes),
                  (λ grid e. (columns.end grid e, like.end grid e), subst (λ (o : Option Primitives). Each (IsEntityOf L t) (entities_in o) absent_entity) is n.entities),
                ),
              ),
            ),
          ),
    )
  where
    is : L.tile t ≡ Some (primitives_of T.tables)
    is = tile_seen A L seen t T.tables here

    nodes : length T.tables.cnd.rows ≡ node_count L t
    nodes = sym (ap (λ (o : Option Primitives). length (nodes_in o)) is ∙ length-map T.tables.cnd.rows (node_in_row T.tables.cnd.head.columns))

    faces : length T.tables.fac.rows ≡ face_count L t
    faces = sym (ap (λ (o : Option Primitives). length (faces_in o)) is ∙ length-map T.tables.fac.rows (face_in_row T.tables.fac.head.columns))

    rings : length T.tables.rng.rows ≡ ring_count L t
    rings = sym (ap (λ (o : Option Primitives). length (rings_in o)) is ∙ length-map T.tables.rng.rows (ring_in_row T.tables.rng.head.columns))

    edges : length T.tables.edg.rows ≡ edge_count L t
    edges = sym (ap (λ (o : Option Primitives). length (edges_in o)) is ∙ length-map T.tables.edg.rows (edge_in_row T.tables.edg.head.columns))
