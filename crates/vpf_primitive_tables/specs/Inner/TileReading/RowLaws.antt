-- What the rows of the tables of tiles say: the new numbers and references, and the marks and the cells that the coverage's own rows have.
use Rattle.std.proofs.Common.{[], ◌≡◌, ℕ, List, ◌∷◌, ◌++◌, length, codes, append-nil, Some, refl, sym, ap, ◌∙◌}
use Rattle.std.specs.List.{AllByRecursion}
use Rattle.vpf_value.specs.Values.{Value}
use Rattle.vpf_head.specs.Head.{Col}
use Rattle.vpf_table.specs.Grid.{Row}
use Rattle.vpf_write.specs.declared.revise.changes.NewKind.{NewKind}
use Rattle.vpf_write.specs.Revise.Revising.{revised, with_kinds}
use Rattle.vpf_prims.specs.Columns.{column_of}
use Rattle.vpf_prims.specs.Reading.{entity_in_row, face_in_row, natural_in, node_in_row, ring_in_row}
use Rattle.vpf_prims.specs.References.{plain, reference_in}
use Rattle.vpf_prims.specs.Roles.{Role, entity_roles, face_roles, node_roles, number_role, reference_role, ring_roles}
use Rattle.vpf_prims.specs.Suiting.{SuitsRole}
use Rattle.vpf_tiling.specs.Tiles.{Ring, numbered_ring}
use Rattle.vpf_primitive_tables.specs.TableForms.Forms.{named_value, natural_value, pair_values, ring_values}
use Rattle.vpf_primitive_tables.specs.Inner.TileReading.CarriedLaws.{carried_kept}
use Rattle.vpf_primitive_tables.specs.Inner.TileReading.CellLaws.{cell_new, values_said}

-- the columns of roles are there and of their kinds
abbrev pub SuitRoles : List Role → List Col → Type 0
SuitRoles roles columns = AllByRecursion (λ role. SuitsRole role (column_of columns role.name)) roles

-- the new values of a row with one reference
abbrev pairs_of : List ℕ → (k n : ℕ) → List (List ℕ × Value)
pairs_of name k n = (codes "id", natural_value k) ∷ (name, natural_value n) ∷ []

-- these are the new values of the row
pair_values_are : (name : List ℕ) (columns : List Col) (k n : ℕ) → values_said columns (pairs_of name k n) ≡ pair_values name columns k n
pair_values_are name columns k n = λ i. (named_value columns (codes "id") (natural_value k) ++ append-nil (named_value columns name (natural_value n)) i)

-- what a row of faces says with the values of these names
face_by_names : (columns : List Col) (kinds : List NewKind) (k n : ℕ) (row : Row) → SuitRoles face_roles columns → length row ≡ length columns
    → face_in_row (with_kinds kinds columns) (revised (values_said columns (pairs_of (codes "ring_ptr") k n)) row)
    ≡ record { id = Some k; ring_ptr = plain n; carried = (face_in_row columns row).carried }
face_by_names columns kinds k n row s whole =
    let pairs : List (List ℕ × Value) = pairs_of (codes "ring_ptr") k n in
    let id = cell_new columns (number_role (codes "id")) refl s.0 kinds pairs row whole (natural_value k) refl in
    let reference = cell_new columns (reference_role (codes "ring_ptr")) refl s.1.0 kinds pairs row whole (natural_value n) refl in
    let carried = carried_kept face_roles kinds columns pairs row (refl, (refl, tt)) in
    λ i. record { id = natural_in (id i); ring_ptr = reference_in (reference i); carried = carried i }

-- a row of faces
pub face_said : (columns : List Col) (kinds : List NewKind) (k n : ℕ) (row : Row) → SuitRoles face_roles columns → length row ≡ length columns
    → face_in_row (with_kinds kinds columns) (revised (pair_values (codes "ring_ptr") columns k n) row)
    ≡ record { id = Some k; ring_ptr = plain n; carried = (face_in_row columns row).carried }
face_said columns kinds k n row s whole =
    ap (λ changes. face_in_row (with_kinds kinds columns) (revised changes row)) (sym (pair_values_are (codes "ring_ptr") columns k n))
    ∙ face_by_names columns kinds k n row s whole

-- what a row of connected nodes says with them
node_by_names : (columns : List Col) (kinds : List NewKind) (k n : ℕ) (row : Row) → SuitRoles node_roles columns → length row ≡ length columns
    → node_in_row (with_kinds kinds columns) (revised (values_said columns (pairs_of (codes "first_edge") k n)) row)
    ≡ record { id = Some k; first_edge = plain n; carried = (node_in_row columns row).carried }
node_by_names columns kinds k n row s whole =
    let pairs : List (List ℕ × Value) = pairs_of (codes "first_edge") k n in
    let id = cell_new columns (number_role (codes "id")) refl s.0 kinds pairs row whole (natural_value k) refl in
    let reference = cell_new columns (reference_role (codes "first_edge")) refl s.1.0 kinds pairs row whole (natural_value n) refl in
    let carried = carried_kept node_roles kinds columns pairs row (refl, (refl, tt)) in
    λ i. record { id = natural_in (id i); first_edge = reference_in (reference i); carried = carried i }

-- a row of connected nodes
pub node_said : (columns : List Col) (kinds : List NewKind) (k n : ℕ) (row : Row) → SuitRoles node_roles columns → length row ≡ length columns
    → node_in_row (with_kinds kinds columns) (revised (pair_values (codes "first_edge") columns k n) row)
    ≡ record { id = Some k; first_edge = plain n; carried = (node_in_row columns row).carried }
node_said columns kinds k n row s whole =
    ap (λ changes. node_in_row (with_kinds kinds columns) (revised changes row)) (sym (pair_values_are (codes "first_edge") columns k n))
    ∙ node_by_names columns kinds k n row s whole

-- what a row of entity nodes says with them
entity_by_names : (columns : List Col) (kinds : List NewKind) (k n : ℕ) (row : Row) → SuitRoles entity_roles columns → length row ≡ length columns
    → entity_in_row (with_kinds kinds columns) (revised (values_said columns (pairs_of (codes "containing_face") k n)) row)
    ≡ record { id = Some k; containing_face = plain n; carried = (entity_in_row columns row).carried }
entity_by_names columns kinds k n row s whole =
    let pairs : List (List ℕ × Value) = pairs_of (codes "containing_face") k n in
    let id = cell_new columns (number_role (codes "id")) refl s.0 kinds pairs row whole (natural_value k) refl in
    let reference = cell_new columns (reference_role (codes "containing_face")) refl s.1.0 kinds pairs row whole (natural_value n) refl in
    let carried = carried_kept entity_roles kinds columns pairs row (refl, (refl, tt)) in
    λ i. record { id = natural_in (id i); containing_face = reference_in (reference i); carried = carried i }

-- a row of entity nodes
pub entity_said : (columns : List Col) (kinds : List NewKind) (k n : ℕ) (row : Row) → SuitRoles entity_roles columns → length row ≡ length columns
    → entity_in_row (with_kinds kinds columns) (revised (pair_values (codes "containing_face") columns k n) row)
    ≡ record { id = Some k; containing_face = plain n; carried = (entity_in_row columns row).carried }
entity_said columns kinds k n row s whole =
    ap (λ changes. entity_in_row (with_kinds kinds columns) (revised changes row)) (sym (pair_values_are (codes "containing_face") columns k n))
    ∙ entity_by_names columns kinds k n row s whole

-- the new values of a ring
abbrev ring_pairs : ℕ → Ring → List (List ℕ × Value)
ring_pairs k r = (codes "id", natural_value k) ∷ (codes "face_id", natural_value r.face) ∷ (codes "start_edge", natural_value r.edge) ∷ []

-- these are the new values of the ring
ring_values_are : (columns : List Col) (k : ℕ) (r : Ring) → values_said columns (ring_pairs k r) ≡ ring_values columns k r
ring_values_are columns k r = λ i.
    (named_value columns (codes "id") (natural_value k)
    ++ (named_value columns (codes "face_id") (natural_value r.face) ++ append-nil (named_value columns (codes "start_edge") (natural_value r.edge)) i))

-- what a row of rings says with the values of these names
ring_by_names : (columns : List Col) (kinds : List NewKind) (k : ℕ) (r : Ring) (row : Row) → SuitRoles ring_roles columns → length row ≡ length columns
    → ring_in_row (with_kinds kinds columns) (revised (values_said columns (ring_pairs k r)) row) ≡ numbered_ring k r
ring_by_names columns kinds k r row s whole =
    let pairs : List (List ℕ × Value) = ring_pairs k r in
    let id = cell_new columns (number_role (codes "id")) refl s.0 kinds pairs row whole (natural_value k) refl in
    let face = cell_new columns (reference_role (codes "face_id")) refl s.1.0 kinds pairs row whole (natural_value r.face) refl in
    let start_edge = cell_new columns (reference_role (codes "start_edge")) refl s.1.1.0 kinds pairs row whole (natural_value r.edge) refl in
    λ i. record { id = natural_in (id i); face = reference_in (face i); start_edge = reference_in (start_edge i) }

-- a row of rings
pub ring_row_said : (columns : List Col) (kinds : List NewKind) (k : ℕ) (r : Ring) (row : Row) → SuitRoles ring_roles columns → length row ≡ length columns
    → ring_in_row (with_kinds kinds columns) (revised (ring_values columns k r) row) ≡ numbered_ring k r
ring_row_said columns kinds k r row s whole =
    ap (λ changes. ring_in_row (with_kinds kinds columns) (revised changes row)) (sym (ring_values_are columns k r))
    ∙ ring_by_names columns kinds k r row s whole
