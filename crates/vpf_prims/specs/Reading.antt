-- What the rows of primitive tables say, by the names of their columns: the columns stand in any order, and a name in any
-- case (MIL-STD-2407, 5.2.2, primitives).
use Rattle.std.specs.Prelude.{ℕ, pos, Bool, List, [], ◌∷◌, map, Option, Some, None, codes, slice_index_or, if◌then◌else◌}
use Rattle.std.specs.List.{list_any}
use Rattle.std.specs.Option.{option_map}
use Rattle.vpf_triplet.specs.declared.triplets.Triplet.{Triplet}
use Rattle.vpf_value.specs.Values.{Value, NumberOf, Nothing}
use Rattle.vpf_table.specs.Head.{Col, place_of}
use Rattle.vpf_table.specs.Folding.{same_name}
use Rattle.vpf_table.specs.Grid.{Row, Grid}
use Rattle.vpf_prims.specs.Roles.{Role, edge_roles, face_roles, node_roles, entity_roles}
use Rattle.vpf_prims.specs.References.{reference_in, cell_at}
use Rattle.vpf_prims.specs.Primitives.{EdgePrimitive, FacePrimitive, RingPrimitive, NodePrimitive, EntityPrimitive, Primitives}

-- the tables of a tile, or of an untiled coverage
pub record PrimitiveTables : Type 0 where
  pub edg : Grid
  pub fac : Grid
  pub rng : Grid
  pub cnd : Grid
  pub end : Option Grid

-- the cell of the column of this name
abbrev pub named_cell : List Col → List ℕ → Row → Value
named_cell columns name row = cell_at row (place_of name columns)

-- the reference in the column of this name
abbrev pub reference_of : List Col → List ℕ → Row → Triplet
reference_of columns name row = reference_in (named_cell columns name row)

-- a cell as a number from 0 up
abbrev pub natural_in : Value → Option ℕ
natural_in (NumberOf (pos n)) = Some n
natural_in v = None

-- the mark of a row; where no column of marks is there, no edge is a line between tiles
abbrev pub mark_at : Row → Option ℕ → Option ℕ
mark_at row None = Some 0
mark_at row (Some c) = natural_in (slice_index_or row c Nothing)

-- the column has one of these roles
abbrev pub has_role : List Role → Col → Bool
has_role roles column = list_any (λ role. same_name role.name column.name) roles

-- the cells of a row in the columns without a role
abbrev pub carried_in : List Role → List Col → Row → List Value
carried_in roles [] row = []
carried_in roles (column ∷ columns) [] = []
carried_in roles (column ∷ columns) (cell ∷ row) = if has_role roles column then carried_in roles columns row else cell ∷ carried_in roles columns row

-- what a row of edges says
abbrev pub edge_in_row : List Col → Row → EdgePrimitive
edge_in_row columns row = record {
  id = natural_in (named_cell columns (codes "id") row);
  start_node = reference_of columns (codes "start_node") row;
  end_node = reference_of columns (codes "end_node") row;
  right_face = reference_of columns (codes "right_face") row;
  left_face = reference_of columns (codes "left_face") row;
  right_edge = reference_of columns (codes "right_edge") row;
  left_edge = reference_of columns (codes "left_edge") row;
  mark = mark_at row (place_of (codes "tile_line") columns);
  carried = carried_in edge_roles columns row;
}

-- a row of faces
abbrev pub face_in_row : List Col → Row → FacePrimitive
face_in_row columns row = record {
  id = natural_in (named_cell columns (codes "id") row);
  ring_ptr = reference_of columns (codes "ring_ptr") row;
  carried = carried_in face_roles columns row;
}

-- a row of rings
abbrev pub ring_in_row : List Col → Row → RingPrimitive
ring_in_row columns row = record {
  id = natural_in (named_cell columns (codes "id") row);
  face = reference_of columns (codes "face_id") row;
  start_edge = reference_of columns (codes "start_edge") row;
}

-- a row of nodes
abbrev pub node_in_row : List Col → Row → NodePrimitive
node_in_row columns row = record {
  id = natural_in (named_cell columns (codes "id") row);
  first_edge = reference_of columns (codes "first_edge") row;
  carried = carried_in node_roles columns row;
}

-- a row of entity nodes
abbrev pub entity_in_row : List Col → Row → EntityPrimitive
entity_in_row columns row = record {
  id = natural_in (named_cell columns (codes "id") row);
  containing_face = reference_of columns (codes "containing_face") row;
  carried = carried_in entity_roles columns row;
}

-- the rows of a table, by a reading of its rows
abbrev pub rows_said : {R : Type 0} → (List Col → Row → R) → Grid → List R
rows_said read grid = map (read grid.head.columns) grid.rows

-- what the tables of a tile say
abbrev pub primitives_of : PrimitiveTables → Primitives
primitives_of tables = record {
  edges = rows_said edge_in_row tables.edg;
  faces = rows_said face_in_row tables.fac;
  rings = rows_said ring_in_row tables.rng;
  nodes = rows_said node_in_row tables.cnd;
  entities = option_map (rows_said entity_in_row) tables.end;
}
