-- What rows of tiles with new values say in the glued tables.
use Rattle.std.proofs.Common.{[], ◌≡◌, ℕ, List, ◌∷◌, ◌++◌, length, Some, codes, append-nil, refl, sym, ap, ◌∙◌, subst, inl, inr}
use Rattle.std.specs.Prelude.{◌⊎◌}
use Rattle.std.specs.List.{AllByRecursion}
use Rattle.std.proofs.lemmas.List.{length-map}
use Rattle.vpf_triplet.specs.declared.kinds.Kind.TheVariants as kinds
use Rattle.vpf_value.specs.Values.{Value}
use Rattle.vpf_head.specs.Head.{Col, place_of}
use Rattle.vpf_table.specs.Grid.{Grid, Row}
use Rattle.vpf_write.specs.declared.revise.changes.NewKind.{NewKind}
use Rattle.vpf_write.specs.Revise.Revising.{revised, with_kinds}
use Rattle.vpf_prims.specs.Reading.{carried_in, edge_in_row, mark_at, natural_in, ring_in_row}
use Rattle.vpf_prims.specs.References.{plain, reference_in}
use Rattle.vpf_prims.specs.Roles.{Role, edge_roles, entity_roles, face_roles, node_roles, number_role, reference_role}
use Rattle.vpf_prims.specs.Suiting.{HasRoles}
use Rattle.vpf_tiling.specs.Tiles.{Ring, numbered_ring}
use Rattle.vpf_renumbering.specs.Glued.{glued_rings}
use Rattle.vpf_primitive_tables.specs.TableForms.Forms.{EdgeValues, bare_row, edge_kinds_of, edge_values_of, named_value, natural_value, pair_kinds, ring_kinds, ring_values}
use Rattle.vpf_primitive_tables.specs.Inner.TileReading.CarriedLaws.{carried_kept}
use Rattle.vpf_primitive_tables.specs.Inner.TileReading.CellLaws.{cell_new, mark_kept, values_said}
use Rattle.vpf_primitive_tables.specs.Inner.TileReading.NumberLaws.{read_numbered}
use Rattle.vpf_primitive_tables.specs.Inner.TileReading.RowLaws.{SuitRoles, entity_said, face_said, node_said, ring_row_said as ring_said}
use Rattle.vpf_glue.specs.GluedTables.Grids.{whole_in}
use Rattle.vpf_glue.proofs.glued_tables.LikeRows.{AreAlike, stand_alike}
use Rattle.vpf_glue.proofs.glued_tables.PlaceLemmas.{as_many}
use Rattle.vpf_glue.proofs.glued_tables.TileRows.{edges_alike, entities_alike, faces_alike, nodes_alike}
use Rattle.vpf_glue.specs.Inner.GluedReading.Laws.{EdgeRowsSay, EntityRowsSay, FaceRowsSay, NodeRowsSay, RingsAreRead, edge_with}
use Rattle.vpf_glue.proofs.glued_reading.CarriedLemmas.{carried_alike}

-- ---- two tables

-- what a row carries
carried_same : (roles : List Role) (like there : Grid) (row : Row) → AreAlike roles like.head.columns there.head.columns ⊎ (like ≡ there)
    → carried_in roles like.head.columns row ≡ carried_in roles there.head.columns row
carried_same roles like there row (inl a) = carried_alike roles like.head.columns there.head.columns row a
carried_same roles like there row (inr one) = ap (λ (g : Grid). carried_in roles g.head.columns row) one

-- how wide it is
wide : (roles : List Role) (like there : Grid) (row : Row) → AreAlike roles like.head.columns there.head.columns ⊎ (like ≡ there)
    → length row ≡ length there.head.columns → length row ≡ length like.head.columns
wide roles like there row (inl a) whole =
    whole ∙ sym (as_many like.head.columns there.head.columns a.apart a.apart_there (stand_alike roles like.head.columns there.head.columns a))
wide roles like there row (inr one) whole = whole ∙ ap (λ (g : Grid). length g.head.columns) (sym one)

-- where a name stands
place_same : (roles : List Role) (like there : Grid) (name : List ℕ) → AreAlike roles like.head.columns there.head.columns ⊎ (like ≡ there)
    → place_of name like.head.columns ≡ place_of name there.head.columns
place_same roles like there name (inl a) = stand_alike roles like.head.columns there.head.columns a name
place_same roles like there name (inr one) = ap (λ (g : Grid). place_of name g.head.columns) one

same_grid : (g h : Grid) → Some g ≡ Some h → g ≡ h
same_grid g h e = cc

-- ---- edges

-- the new values of an edge by the names of their columns
abbrev edge_pairs : ℕ → EdgeValues → List (List ℕ × Value)
edge_pairs k v =
    (codes "id", natural_value k)
    ∷ (codes "start_node", v.start_node)
    ∷ (codes "end_node", v.end_node)
    ∷ (codes "right_face", v.right_face)
    ∷ (codes "left_face", v.left_face)
    ∷ (codes "right_edge", v.right_edge)
    ∷ (codes "left_edge", v.left_edge) ∷ []

edge_values_are : (columns : List Col) (k : ℕ) (v : EdgeValues) → values_said columns (edge_pairs k v) ≡ edge_values_of columns k v
edge_values_are columns k v = λ i.
    (named_value columns (codes "id") (natural_value k)
    ++ (named_value columns (codes "start_node") v.start_node
    ++ (named_value columns (codes "end_node") v.end_node
    ++ (named_value columns (codes "right_face") v.right_face
    ++ (named_value columns (codes "left_face") v.left_face
    ++ (named_value columns (codes "right_edge") v.right_edge
    ++ append-nil (named_value columns (codes "left_edge") v.left_edge) i))))))

-- what a row of edges says with the values of these names
edge_by_names : (columns : List Col) (news : List NewKind) (k : ℕ) (v : EdgeValues) (row : Row) → SuitRoles edge_roles columns → length row ≡ length columns
    → edge_in_row (with_kinds news columns) (revised (values_said columns (edge_pairs k v)) row) ≡ edge_with k v (edge_in_row columns row)
edge_by_names columns news k v row s whole =
    let pairs : List (List ℕ × Value) = edge_pairs k v in
    let id = cell_new columns (number_role (codes "id")) refl s.0 news pairs row whole (natural_value k) refl in
    let start_node = cell_new columns (reference_role (codes "start_node")) refl s.1.0 news pairs row whole v.start_node refl in
    let end_node = cell_new columns (reference_role (codes "end_node")) refl s.1.1.0 news pairs row whole v.end_node refl in
    let right_face = cell_new columns (reference_role (codes "right_face")) refl s.1.1.1.0 news pairs row whole v.right_face refl in
    let left_face = cell_new columns (reference_role (codes "left_face")) refl s.1.1.1.1.0 news pairs row whole v.left_face refl in
    let right_edge = cell_new columns (reference_role (codes "right_edge")) refl s.1.1.1.1.1.0 news pairs row whole v.right_edge refl in
    let left_edge = cell_new columns (reference_role (codes "left_edge")) refl s.1.1.1.1.1.1.0 news pairs row whole v.left_edge refl in
    let mark = mark_kept columns (codes "tile_line") news pairs row whole refl in
    let carried = carried_kept edge_roles news columns pairs row (refl, (refl, (refl, (refl, (refl, (refl, (refl, tt))))))) in
    λ i. record {
      id = natural_in (id i);
      start_node = reference_in (start_node i);
      end_node = reference_in (end_node i);
      right_face = reference_in (right_face i);
      left_face = reference_in (left_face i);
      right_edge = reference_in (right_edge i);
      left_edge = reference_in (left_edge i);
      mark = mark i;
      carried = carried i;
    }

pub edge_rows_say : EdgeRowsSay
edge_rows_say c like there a row whole k v =
    let alike = edges_alike c like there a in
    let columns : List Col = like.head.columns in
    let suits = subst (HasRoles edge_roles) (same_grid a.T.tables.edg like a.table) (a.columns.suit a.tile a.T a.has).edg in
    let mark = ap (mark_at row) (place_same edge_roles like there (codes "tile_line") alike) in
    let carried = carried_same edge_roles like there row alike in
    let own : edge_with k v (edge_in_row columns row) ≡ edge_with k v (edge_in_row there.head.columns row) =
    λ i. record {
      id = Some k;
      start_node = reference_in v.start_node;
      end_node = reference_in v.end_node;
      right_face = reference_in v.right_face;
      left_face = reference_in v.left_face;
      right_edge = reference_in v.right_edge;
      left_edge = reference_in v.left_edge;
      mark = mark i;
      carried = carried i;
    } in
    ap (λ changes. edge_in_row (with_kinds (edge_kinds_of kinds.I columns) columns) (revised changes row)) (sym (edge_values_are columns k v))
    ∙ edge_by_names columns (edge_kinds_of kinds.I columns) k v row suits (wide edge_roles like there row alike whole) ∙ own

-- ---- faces, nodes and entity nodes

pub face_rows_say : FaceRowsSay
face_rows_say c like there a row whole k n =
    let alike = faces_alike c like there a in
    let columns : List Col = like.head.columns in
    let suits = subst (HasRoles face_roles) (same_grid a.T.tables.fac like a.table) (a.columns.suit a.tile a.T a.has).fac in
    let carried = carried_same face_roles like there row alike in
    face_said columns (pair_kinds (codes "ring_ptr") columns) k n row suits (wide face_roles like there row alike whole)
    ∙ (λ i. record { id = Some k; ring_ptr = plain n; carried = carried i })

pub node_rows_say : NodeRowsSay
node_rows_say c like there a row whole k n =
    let alike = nodes_alike c like there a in
    let columns : List Col = like.head.columns in
    let suits = subst (HasRoles node_roles) (same_grid a.T.tables.cnd like a.table) (a.columns.suit a.tile a.T a.has).cnd in
    let carried = carried_same node_roles like there row alike in
    node_said columns (pair_kinds (codes "first_edge") columns) k n row suits (wide node_roles like there row alike whole)
    ∙ (λ i. record { id = Some k; first_edge = plain n; carried = carried i })

pub entity_rows_say : EntityRowsSay
entity_rows_say c like there a row whole k n =
    let alike = entities_alike c like there a in
    let columns : List Col = like.head.columns in
    let suits = (a.columns.suit a.tile a.T a.has).end like a.table in
    let carried = carried_same entity_roles like there row alike in
    entity_said columns (pair_kinds (codes "containing_face") columns) k n row suits (wide entity_roles like there row alike whole)
    ∙ (λ i. record { id = Some k; containing_face = plain n; carried = carried i })

-- ---- rings

all_rings : (rings : List Ring) → AllByRecursion (λ (r : Ring). Unit {0}) rings
all_rings [] = tt
all_rings (r ∷ rings) = (tt, all_rings rings)

pub rings_are_read : RingsAreRead
rings_are_read c like has =
    let columns : List Col = like.head.columns in
    let rings : List Ring = glued_rings (whole_in c) in
    read_numbered (λ (r : Ring). Unit {0}) (ring_in_row (with_kinds (ring_kinds columns) columns)) (λ k r. revised (ring_values columns k r) (bare_row columns)) numbered_ring
    (λ k r u. ring_said columns (ring_kinds columns) k r (bare_row columns) has (length-map columns _)) 1 rings (all_rings rings)
