-- The rows of an edge table: what they say, and what disagrees in them.
use Rattle.std.specs.Prelude.{ℕ, ◌≤◌, List, All, Option, codes}
use Rattle.vpf_triplet.specs.declared.triplets.Triplet.{Triplet}
use Rattle.vpf_table.specs.Head.{Col}
use Rattle.vpf_table.specs.Grid.{Row}
use Rattle.vpf_table.specs.Findings.{Disagreement}
use Rattle.vpf_table.specs.Firsts.{◌or◌, first_of_rows}
use Rattle.vpf_prims.specs.declared.placing.TableAt.{TableAt}
use Rattle.vpf_prims.specs.declared.edges.Ranges.{Ranges}
use Rattle.vpf_prims.specs.declared.rows.Edge.{Edge}
use Rattle.vpf_prims.specs.declared.rows.EdgeRow.{EdgeRow}
use Rattle.vpf_prims.specs.Roles.{number_role, reference_role, mark_role}
use Rattle.vpf_prims.specs.Columns.{RoleAt, role_column, IsWithin}
use Rattle.vpf_prims.specs.References.{cell_at, reference_in, id_of, is_line}
use Rattle.vpf_prims.specs.Lines.{id_line, range_line}

-- an edge table that is looked at, and its columns with a role
pub record EdgesAt : Type 0 where
  pub at : TableAt
  pub id : RoleAt
  pub start_node : RoleAt
  pub end_node : RoleAt
  pub right_face : RoleAt
  pub left_face : RoleAt
  pub right_edge : RoleAt
  pub left_edge : RoleAt
  pub tile_line : RoleAt

-- the columns of a header
abbrev pub edge_columns : TableAt → List Col → EdgesAt
edge_columns at columns = record {
  at = at;
  id = role_column columns (number_role (codes "id"));
  start_node = role_column columns (reference_role (codes "start_node"));
  end_node = role_column columns (reference_role (codes "end_node"));
  right_face = role_column columns (reference_role (codes "right_face"));
  left_face = role_column columns (reference_role (codes "left_face"));
  right_edge = role_column columns (reference_role (codes "right_edge"));
  left_edge = role_column columns (reference_role (codes "left_edge"));
  tile_line = role_column columns (mark_role (codes "tile_line"));
}

-- the same columns, where another table is looked at
abbrev pub moved_to : TableAt → EdgesAt → EdgesAt
moved_to at columns = record {
  at = at;
  id = columns.id;
  start_node = columns.start_node;
  end_node = columns.end_node;
  right_face = columns.right_face;
  left_face = columns.left_face;
  right_edge = columns.right_edge;
  left_edge = columns.left_edge;
  tile_line = columns.tile_line;
}

-- the columns stand among so many
pub record AreWithin (width : ℕ) (columns : EdgesAt) : Type 0 where
  pub id : IsWithin width columns.id
  pub start_node : IsWithin width columns.start_node
  pub end_node : IsWithin width columns.end_node
  pub right_face : IsWithin width columns.right_face
  pub left_face : IsWithin width columns.left_face
  pub right_edge : IsWithin width columns.right_edge
  pub left_edge : IsWithin width columns.left_edge
  pub tile_line : IsWithin width columns.tile_line

-- the reference in a column of a row
abbrev pub reference_at : RoleAt → Row → Triplet
reference_at column row = reference_in (cell_at row column.place)

-- its number in its own tile
abbrev pub id_at : RoleAt → Row → ℕ
id_at column row = id_of (reference_at column row)

-- what a row says: its references, and whether it is a line between tiles
abbrev pub edge_row : EdgesAt → Row → EdgeRow
edge_row columns row = record {
  start_node = reference_at columns.start_node row;
  end_node = reference_at columns.end_node row;
  right_face = reference_at columns.right_face row;
  left_face = reference_at columns.left_face row;
  right_edge = reference_at columns.right_edge row;
  left_edge = reference_at columns.left_edge row;
  line = is_line (cell_at row columns.tile_line.place);
}

-- the numbers of what a row says, in its own tile
abbrev pub own_numbers : EdgeRow → Edge
own_numbers row = record {
  start_node = id_of row.start_node;
  end_node = id_of row.end_node;
  right_face = id_of row.right_face;
  left_face = id_of row.left_face;
  right_edge = id_of row.right_edge;
  left_edge = id_of row.left_edge;
}

-- those of a row that is read
abbrev pub edge_of : EdgesAt → Row → Edge
edge_of columns row = record {
  start_node = id_at columns.start_node row;
  end_node = id_at columns.end_node row;
  right_face = id_at columns.right_face row;
  left_face = id_at columns.left_face row;
  right_edge = id_at columns.right_edge row;
  left_edge = id_at columns.left_edge row;
}

-- the lines on the ids and ranges of row k, by column
abbrev pub edge_lines : EdgesAt → Ranges → ℕ → Row → Option Disagreement
edge_lines columns most k row =
    id_line columns.at k columns.id row
    or range_line columns.at 1 most.nodes k columns.start_node row
    or range_line columns.at 1 most.nodes k columns.end_node row
    or range_line columns.at 1 most.faces k columns.right_face row
    or range_line columns.at 1 most.faces k columns.left_face row
    or range_line columns.at 1 most.edges k columns.right_edge row
    or range_line columns.at 1 most.edges k columns.left_edge row

-- the first finding on ids and ranges, row by row
abbrev pub edges_finding : EdgesAt → Ranges → List Row → Option Disagreement
edges_finding columns most rows = first_of_rows (edge_lines columns most) 1 rows

-- one of the edges 1 to n
abbrev pub IsEdge : ℕ → ℕ → Type 0
IsEdge n edge = (1 ≤ edge) × (edge ≤ n)

-- both wings of an edge are among n edges
abbrev pub HasWings : ℕ → Edge → Type 0
HasWings n edge = IsEdge n edge.right_edge × IsEdge n edge.left_edge

-- the wings of all edges are among n edges
abbrev pub HaveWings : ℕ → List Edge → Type 0
HaveWings n edges = All (HasWings n) edges
