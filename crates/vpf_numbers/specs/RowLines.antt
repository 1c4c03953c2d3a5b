-- What disagrees in the rows of the tables of a tile: ids, references and marks, by column.
use Rattle.std.specs.Prelude.{ℕ, Bool, false, not, ◌&&◌, ◌==◌, if◌then◌else◌, is_some, List, Option, Some, None, codes}
use Rattle.vpf_value.specs.Values.{Value}
use Rattle.vpf_head.specs.Head.{Col}
use Rattle.vpf_table.specs.Grid.{Row}
use Rattle.vpf_findings.specs.declared.finding.SeenWord.TheVariants as words
use Rattle.vpf_findings.specs.Findings.{CellSeen, RangeSeen, WordSeen, Disagreement}
use Rattle.vpf_findings.specs.Firsts.{◌or◌, unless}
use Rattle.vpf_prims.specs.declared.placing.TableAt.{TableAt}
use Rattle.vpf_prims.specs.declared.edges.Ranges.{Ranges}
use Rattle.vpf_prims.specs.Columns.{RoleAt, id_column, in_table, reference_column}
use Rattle.vpf_prims.specs.References.{reference_in, cell_at, is_from, stays}
use Rattle.vpf_prims.specs.Lines.{id_line, range_line}
use Rattle.vpf_prims.specs.Edges.{EdgesAt}
use Rattle.vpf_prims.specs.Reading.{natural_in}
use Rattle.vpf_numbers.specs.Around.{Around, edges_around, faces_around, nodes_around, tables_around}

-- a reference has a part of another tile, where there is none
abbrev pub plain_line : TableAt → ℕ → RoleAt → Row → Option Disagreement
plain_line at k column row =
    let cell = cell_at row column.place in
    unless (stays (reference_in cell)) (in_table at 1 k column.name (CellSeen column.kind cell) (WordSeen words.Plain))

-- the lines on a reference within the tile, to a number from low to last
abbrev pub reference_lines : TableAt → (low last k : ℕ) → RoleAt → Row → Option Disagreement
reference_lines at low last k column row = range_line at low last k column row or plain_line at k column row

-- the cell of a mark is neither 0 nor 1; where there is no column of marks nothing is said
abbrev pub mark_line_at : TableAt → ℕ → RoleAt → Row → Option ℕ → Option Disagreement
mark_line_at at k column row None = None
mark_line_at at k column row (Some c) =
    let cell = cell_at row (Some c) in
    unless (is_from 0 1 (natural_in cell)) (in_table at 1 k column.name (CellSeen column.kind cell) (RangeSeen 0 1))

-- the line on a mark
abbrev pub mark_line : TableAt → ℕ → RoleAt → Row → Option Disagreement
mark_line at k column row = mark_line_at at k column row column.place

-- a cell that is to have no parts of another tile
abbrev pub plain_wanted : TableAt → ℕ → RoleAt → Value → Disagreement
plain_wanted at k column cell = in_table at 1 k column.name (CellSeen column.kind cell) (WordSeen words.Plain)

-- the two parts of another tile: one is there alone, or they may not be there; they name no other tile that has tables, or no row from
-- low on of that tile, which has so many
abbrev pub beyond_line : TableAt → Around → (count : ℕ → ℕ) → (low k : ℕ) → RoleAt → Value → (allowed : Bool) → (tile ext : Option ℕ) → Option Disagreement
beyond_line at A count low k column cell allowed None None = None
beyond_line at A count low k column cell allowed None (Some n) = Some (plain_wanted at k column cell)
beyond_line at A count low k column cell allowed (Some t) None = Some (plain_wanted at k column cell)
beyond_line at A count low k column cell allowed (Some t) (Some n) =
    unless allowed (plain_wanted at k column cell)
    or unless (not (t == at.tile) && is_some (tables_around A t)) (in_table at 1 k column.name (CellSeen column.kind cell) (WordSeen words.Tile))
    or unless (is_from low (count t) (Some n)) (in_table at 1 k column.name (CellSeen column.kind cell) (RangeSeen low (count t)))

-- the lines on a reference that may go on in another tile: its number here is one of 1 to last
abbrev pub cross_lines : TableAt → Around → (count : ℕ → ℕ) → (last k : ℕ) → RoleAt → Row → Option Disagreement
cross_lines at A count last k column row =
    let cell = cell_at row column.place in
    range_line at 1 last k column row or beyond_line at A count 1 k column cell A.is_tiled (reference_in cell).tile (reference_in cell).ext

-- the number of a reference is 1
abbrev pub is_first : Option ℕ → Bool
is_first None = false
is_first (Some n) = n == 1

-- the lines on a face: one of another tile is 1 here, and isn't the universe there
abbrev pub face_lines : TableAt → Around → (last k : ℕ) → RoleAt → Row → Option Disagreement
face_lines at A last k column row =
    let cell = cell_at row column.place in
    range_line at 1 last k column row
    or beyond_line at A (faces_around A) 2 k column cell (A.is_tiled && is_first (reference_in cell).id) (reference_in cell).tile (reference_in cell).ext

-- the lines on the nodes where row k of edges begins and ends, whose tile has so many
abbrev pub edge_end_lines : Around → EdgesAt → (last k : ℕ) → Row → Option Disagreement
edge_end_lines A columns last k row =
    cross_lines columns.at A (nodes_around A) last k columns.start_node row
    or cross_lines columns.at A (nodes_around A) last k columns.end_node row

-- the lines on its faces
abbrev pub edge_side_lines : Around → EdgesAt → (last k : ℕ) → Row → Option Disagreement
edge_side_lines A columns last k row =
    face_lines columns.at A last k columns.right_face row
    or face_lines columns.at A last k columns.left_face row

-- the lines on its wings and its mark
abbrev pub edge_wing_lines : Around → EdgesAt → (last k : ℕ) → Row → Option Disagreement
edge_wing_lines A columns last k row =
    cross_lines columns.at A (edges_around A) last k columns.right_edge row
    or cross_lines columns.at A (edges_around A) last k columns.left_edge row
    or mark_line columns.at k columns.tile_line row

-- the lines on row k of edges, whose tile has so many nodes, faces and edges
abbrev pub edge_row_lines : Around → EdgesAt → Ranges → ℕ → Row → Option Disagreement
edge_row_lines A columns most k row =
    id_line columns.at k columns.id row
    or edge_end_lines A columns most.nodes k row
    or edge_side_lines A columns most.faces k row
    or edge_wing_lines A columns most.edges k row

-- the lines on row k of faces: the universe may have no ring
abbrev pub face_row_lines : TableAt → List Col → (rings k : ℕ) → Row → Option Disagreement
face_row_lines at columns rings k row =
    id_line at k (id_column columns) row
    or reference_lines at (if k == 1 then 0 else 1) rings k (reference_column columns (codes "ring_ptr")) row

-- the lines on row k of rings
abbrev pub ring_row_lines : TableAt → List Col → (faces edges k : ℕ) → Row → Option Disagreement
ring_row_lines at columns faces edges k row =
    id_line at k (id_column columns) row
    or reference_lines at 1 faces k (reference_column columns (codes "face_id")) row
    or reference_lines at 1 edges k (reference_column columns (codes "start_edge")) row

-- the lines on row k of connected nodes
abbrev pub node_row_lines : TableAt → List Col → (edges k : ℕ) → Row → Option Disagreement
node_row_lines at columns edges k row =
    id_line at k (id_column columns) row
    or reference_lines at 1 edges k (reference_column columns (codes "first_edge")) row

-- the lines on row k of entity nodes
abbrev pub entity_row_lines : TableAt → List Col → (faces k : ℕ) → Row → Option Disagreement
entity_row_lines at columns faces k row =
    id_line at k (id_column columns) row
    or reference_lines at 1 faces k (reference_column columns (codes "containing_face")) row

-- the lines on row k where one column has ids and another references within the tile
abbrev pub numbered_lines : TableAt → (id column : RoleAt) → (low last k : ℕ) → Row → Option Disagreement
numbered_lines at id column low last k row = id_line at k id row or reference_lines at low last k column row

-- the same, from 1
abbrev pub plain_rows_line : TableAt → (id column : RoleAt) → (last k : ℕ) → Row → Option Disagreement
plain_rows_line at id column last k row = numbered_lines at id column 1 last k row

-- the same, where the first row may refer to nothing
abbrev pub universe_rows_line : TableAt → (id column : RoleAt) → (last k : ℕ) → Row → Option Disagreement
universe_rows_line at id column last k row = numbered_lines at id column (if k == 1 then 0 else 1) last k row

-- the lines on row k of rings, by their columns
abbrev pub ring_rows_line : TableAt → (id face edge : RoleAt) → (faces edges k : ℕ) → Row → Option Disagreement
ring_rows_line at id face edge faces edges k row = id_line at k id row or reference_lines at 1 faces k face row or reference_lines at 1 edges k edge row
