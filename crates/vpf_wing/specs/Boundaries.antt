-- The combinatorial map that the rows of an untiled edge table say, what disagrees in it first, and the listing of its boundary
-- cycles.
use Rattle.std.specs.Prelude.{◌≡◌, ℕ, ◌*◌, if◌then◌else◌, Option, Some, None, List, length, map, All}
use Rattle.vpf_darts.specs.declared.darts.TileDart.{TileDart}
use Rattle.vpf_darts.specs.declared.darts.Dart.{Dart}
use Rattle.vpf_darts.specs.Darts.{dart_code, flip}
use Rattle.vpf_darts.specs.Cycles.{IsListing}
use Rattle.vpf_darts.specs.Listings.{numbers_of}
use Rattle.vpf_darts.specs.Maps.{DartMap}
use Rattle.vpf_darts.specs.MapLists.{is_among, dart_place}
use Rattle.vpf_findings.specs.declared.finding.TableName.TheVariants as tables
use Rattle.vpf_findings.specs.Findings.{Disagreement}
use Rattle.vpf_findings.specs.Firsts.{◌or◌}
use Rattle.vpf_prims.specs.Grid.{Row, Grid}
use Rattle.vpf_prims.specs.declared.edges.Ranges.{Ranges}
use Rattle.vpf_prims.specs.declared.placing.TableAt.{TableAt}
use Rattle.vpf_prims.specs.declared.rows.Edge.{Edge}
use Rattle.vpf_prims.specs.Roles.{edge_roles}
use Rattle.vpf_prims.specs.Columns.{columns_finding}
use Rattle.vpf_prims.specs.Edges.{EdgesAt, edge_columns, edge_of, edges_finding}
use Rattle.vpf_wing.specs.Nexts.{next_dart, dart_at}
use Rattle.vpf_wing.specs.Wings.{wings_finding, number_cell}

-- the number of a next dart, or of the dart itself where there is none
abbrev pub number_or : Option Dart → ℕ → ℕ
number_or None d = d
number_or (Some next) d = dart_code next

-- the number of the next of the dart with this number; a number of no dart is its own next
unfoldable pub next_number : List Edge → ℕ → ℕ
next_number edges d = if is_among (2 * length edges) d then number_or (next_dart edges (dart_at (dart_place d))) d else d

-- the map of the edges, all of them live
abbrev pub map_of : List Edge → DartMap
map_of edges = record {
  has = is_among (2 * length edges);
  next = next_number edges;
  flip = flip;
  live = is_among (2 * length edges);
}

-- the edge table of an untiled coverage, where it alone is read
abbrev pub untiled_edges : TableAt
untiled_edges = record { tile = 0; table = tables.Edg; file = 0 }

-- the largest number of a node or a face
abbrev pub most_number : ℕ
most_number = 2147483647

-- what rows of n edges may name, where no other table is read
abbrev pub ranges_of : ℕ → Ranges
ranges_of n = record { nodes = most_number; faces = most_number; edges = n }

-- the columns of a table's edges
abbrev pub table_columns : Grid → EdgesAt
table_columns grid = edge_columns untiled_edges grid.head.columns

-- the edges of a table, by their numbers from 1
abbrev pub table_edges : Grid → List Edge
table_edges grid = map (edge_of (table_columns grid)) grid.rows

-- the first finding on rows and then on wings, once the columns are known
abbrev pub rows_finding : EdgesAt → List Row → Option Disagreement
rows_finding columns rows =
    let edges = map (edge_of columns) rows in
    edges_finding columns (ranges_of (length rows)) rows or wings_finding columns (number_cell edges) edges

-- the first finding on an edge table: on its columns, then on its rows, then on its wings
unfoldable pub table_finding : Grid → Option Disagreement
table_finding grid = columns_finding untiled_edges grid.head.columns edge_roles or rows_finding (table_columns grid) grid.rows

-- the listing of the boundary cycles of an edge table, whose darts are in tile 0
pub record IsBoundaryListing (grid : Grid) (lists : List (List TileDart)) : Type 0 where
  pub listing : IsListing (map_of (table_edges grid)).next (map_of (table_edges grid)).live (numbers_of lists)
  pub untiled : All (All (λ d. d.tile ≡ 0)) lists
