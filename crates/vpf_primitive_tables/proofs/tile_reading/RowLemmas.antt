-- What the rows of the tables of tiles say: the new numbers and references, and the marks and the cells that the coverage's own rows have.
use Rattle.std.proofs.Common.{[], ◌≡◌, ℕ, List, ◌∷◌, ◌++◌, length, codes, append-nil, Some, refl, sym, ap, ◌∙◌}
use Rattle.vpf_value.specs.Values.{Value, TripletOf}
use Rattle.vpf_head.specs.Head.{Col}
use Rattle.vpf_table.specs.Grid.{Row}
use Rattle.vpf_write.specs.declared.revise.changes.NewKind.{NewKind}
use Rattle.vpf_write.specs.Revise.Revising.{revised, with_kinds}
use Rattle.vpf_prims.specs.Primitives.{EdgePrimitive}
use Rattle.vpf_prims.specs.Reading.{edge_in_row, natural_in}
use Rattle.vpf_prims.specs.References.{reference_in}
use Rattle.vpf_prims.specs.Roles.{edge_roles, number_role, reference_role}
use Rattle.vpf_primitive_tables.specs.TableForms.Forms.{named_value, natural_value}
use Rattle.vpf_primitive_tables.specs.TileTables.Grids.{edge_values}
use Rattle.vpf_primitive_tables.specs.Inner.TileReading.CarriedLaws.{carried_kept}
use Rattle.vpf_primitive_tables.specs.Inner.TileReading.CellLaws.{cell_new, mark_kept, values_said}
use Rattle.vpf_primitive_tables.specs.Inner.TileReading.RowLaws.{SuitRoles}

-- the new values of an edge by the names of their columns
abbrev edge_pairs : ℕ → EdgePrimitive → List (List ℕ × Value)
edge_pairs k e =
    (codes "id", natural_value k)
    ∷ (codes "start_node", TripletOf e.start_node)
    ∷ (codes "end_node", TripletOf e.end_node)
    ∷ (codes "right_face", TripletOf e.right_face)
    ∷ (codes "left_face", TripletOf e.left_face)
    ∷ (codes "right_edge", TripletOf e.right_edge)
    ∷ (codes "left_edge", TripletOf e.left_edge) ∷ []

-- these are the new values of the edge
edge_values_are : (columns : List Col) (k : ℕ) (e : EdgePrimitive) → values_said columns (edge_pairs k e) ≡ edge_values columns k e
edge_values_are columns k e = λ i.
    (named_value columns (codes "id") (natural_value k)
    ++ (named_value columns (codes "start_node") (TripletOf e.start_node)
    ++ (named_value columns (codes "end_node") (TripletOf e.end_node)
    ++ (named_value columns (codes "right_face") (TripletOf e.right_face)
    ++ (named_value columns (codes "left_face") (TripletOf e.left_face)
    ++ (named_value columns (codes "right_edge") (TripletOf e.right_edge)
    ++ append-nil (named_value columns (codes "left_edge") (TripletOf e.left_edge)) i))))))

-- edge k, whose references are those of e, and whose mark and carried cells those of another
abbrev pub edge_like : ℕ → EdgePrimitive → EdgePrimitive → EdgePrimitive
edge_like k e old = record {
  id = Some k;
  start_node = e.start_node;
  end_node = e.end_node;
  right_face = e.right_face;
  left_face = e.left_face;
  right_edge = e.right_edge;
  left_edge = e.left_edge;
  mark = old.mark;
  carried = old.carried;
}

-- what a row of edges says with the values of these names
edge_by_names : (columns : List Col) (kinds : List NewKind) (k : ℕ) (e : EdgePrimitive) (row : Row) → SuitRoles edge_roles columns → length row ≡ length columns
    → edge_in_row (with_kinds kinds columns) (revised (values_said columns (edge_pairs k e)) row) ≡ edge_like k e (edge_in_row columns row)
edge_by_names columns kinds k e row s whole =
    let pairs : List (List ℕ × Value) = edge_pairs k e in
    let id = cell_new columns (number_role (codes "id")) refl s.0 kinds pairs row whole (natural_value k) refl in
    let start_node = cell_new columns (reference_role (codes "start_node")) refl s.1.0 kinds pairs row whole (TripletOf e.start_node) refl in
    let end_node = cell_new columns (reference_role (codes "end_node")) refl s.1.1.0 kinds pairs row whole (TripletOf e.end_node) refl in
    let right_face = cell_new columns (reference_role (codes "right_face")) refl s.1.1.1.0 kinds pairs row whole (TripletOf e.right_face) refl in
    let left_face = cell_new columns (reference_role (codes "left_face")) refl s.1.1.1.1.0 kinds pairs row whole (TripletOf e.left_face) refl in
    let right_edge = cell_new columns (reference_role (codes "right_edge")) refl s.1.1.1.1.1.0 kinds pairs row whole (TripletOf e.right_edge) refl in
    let left_edge = cell_new columns (reference_role (codes "left_edge")) refl s.1.1.1.1.1.1.0 kinds pairs row whole (TripletOf e.left_edge) refl in
    let mark = mark_kept columns (codes "tile_line") kinds pairs row whole refl in
    let carried = carried_kept edge_roles kinds columns pairs row (refl, (refl, (refl, (refl, (refl, (refl, (refl, tt))))))) in
    λ i. record {
      id = natural_in (id i);
      start_node = reference_in (start_node i);
      end_node = reference_in (end_node i);
      right_face = reference_in (right_face i);
      left_face = reference_in (left_face i);
      right_edge = reference_in (right_edge i);
      left_edge = reference_in (left_edge i);
      mark = mark i;
      carried = carried i;
    }

-- a row of edges
pub edge_said : (columns : List Col) (kinds : List NewKind) (k : ℕ) (e : EdgePrimitive) (row : Row) → SuitRoles edge_roles columns → length row ≡ length columns
    → edge_in_row (with_kinds kinds columns) (revised (edge_values columns k e) row) ≡ edge_like k e (edge_in_row columns row)
edge_said columns kinds k e row s whole =
    ap (λ changes. edge_in_row (with_kinds kinds columns) (revised changes row)) (sym (edge_values_are columns k e))
    ∙ edge_by_names columns kinds k e row s whole
