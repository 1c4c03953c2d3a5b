-- An example: an edge on each outer side and a line between them, of two faces in two tiles. Nothing disagrees in it; and where the line isn't
-- marked as one in the first tile, that is found.
use Rattle.std.specs.Prelude.{◌≡◌, ℕ, pos, true, List, [], ◌∷◌, ◌++◌, map, None, Some, codes}
use Rattle.vpf_base.specs.declared.orders.Order.TheVariants.{Little}
use Rattle.vpf_triplet.specs.declared.kinds.Kind.{Kind}
use Rattle.vpf_triplet.specs.declared.kinds.Kind.TheVariants.{I, S, K}
use Rattle.vpf_triplet.specs.declared.kinds.Count.TheVariants.{Fixed}
use Rattle.vpf_triplet.specs.declared.triplets.Triplet.{Triplet}
use Rattle.vpf_value.specs.Values.{Value, NumberOf, TripletOf}
use Rattle.vpf_head.specs.declared.columns.Key.TheVariants.{Many}
use Rattle.vpf_head.specs.Head.{Col}
use Rattle.vpf_table.specs.Grid.{Row, Grid}
use Rattle.vpf_findings.specs.declared.finding.TableName.TheVariants.{Edg}
use Rattle.vpf_findings.specs.Findings.{CellSeen}
use Rattle.vpf_prims.specs.References.{plain}
use Rattle.vpf_prims.specs.Primitives.{cross}
use Rattle.vpf_prims.specs.Reading.{PrimitiveTables}
use Rattle.vpf_prims.specs.Tables.{TileTables}
use Rattle.vpf_prims.specs.Coverages.{CoverageTables}
use Rattle.vpf_cross.specs.CrossFinding.{topology_finding}

-- a column of one value a row
abbrev pub column_named : Kind → List ℕ → Col
column_named kind name = record { name = name; kind = kind; count = Fixed 1; key = Many; description = codes "-"; values = None; theme = None; narrative = None }

-- a cell with a number, and one with a reference
abbrev pub number_held : ℕ → Value
number_held n = NumberOf (pos n)

abbrev pub reference_held : Triplet → Value
reference_held r = TripletOf r

-- a table by its columns and rows
abbrev pub table_with : List Col → List Row → Grid
table_with columns rows = record { head = record { order = Little; description = codes "Table"; narrative = None; columns = columns }; rows = rows }

-- a table of numbers alone
abbrev pub plain_table : List (List ℕ) → List (List ℕ) → Grid
plain_table names rows = table_with (map (column_named I) names) (map (map number_held) rows)

-- the columns of edges whose references are triplet ids
abbrev pub tiled_edge_columns : List Col
tiled_edge_columns =
    column_named I (codes "id")
    ∷ column_named K (codes "start_node")
    ∷ column_named K (codes "end_node")
    ∷ column_named K (codes "right_face")
    ∷ column_named K (codes "left_face")
    ∷ column_named K (codes "right_edge")
    ∷ column_named K (codes "left_edge")
    ∷ column_named S (codes "tile_line") ∷ []

-- an edge: its nodes, faces and wings, and its mark
abbrev pub example_tiled_edge : ℕ → List Triplet → ℕ → Row
example_tiled_edge k references mark = number_held k ∷ map reference_held references ++ (number_held mark ∷ [])

-- the faces, rings and nodes of either tile
abbrev pub tile_with : Grid → PrimitiveTables
tile_with edg = record {
  edg = edg;
  fac = plain_table (codes "id" ∷ codes "ring_ptr" ∷ []) ((1 ∷ 1 ∷ []) ∷ (2 ∷ 2 ∷ []) ∷ []);
  rng = plain_table (codes "id" ∷ codes "face_id" ∷ codes "start_edge" ∷ []) ((1 ∷ 1 ∷ 1 ∷ []) ∷ (2 ∷ 2 ∷ 1 ∷ []) ∷ []);
  cnd = plain_table (codes "id" ∷ codes "first_edge" ∷ []) ((1 ∷ 1 ∷ []) ∷ (2 ∷ 1 ∷ []) ∷ []);
  end = None;
}

-- the edges of the first tile, the second of which has this mark
abbrev pub first_edges : ℕ → Grid
first_edges mark = table_with tiled_edge_columns (
    example_tiled_edge 1 (cross 1 2 1 ∷ plain 2 ∷ plain 2 ∷ plain 1 ∷ plain 2 ∷ cross 2 2 1 ∷ []) 0
    ∷ example_tiled_edge 2 (plain 1 ∷ cross 2 2 2 ∷ cross 1 2 2 ∷ plain 2 ∷ cross 1 2 1 ∷ plain 1 ∷ []) mark ∷ [])

-- those of the second
abbrev pub second_edges : Grid
second_edges = table_with tiled_edge_columns (
    example_tiled_edge 1 (cross 2 1 2 ∷ plain 1 ∷ plain 2 ∷ plain 1 ∷ plain 2 ∷ cross 2 1 1 ∷ []) 0
    ∷ example_tiled_edge 2 (cross 1 1 1 ∷ plain 2 ∷ plain 2 ∷ cross 1 1 2 ∷ plain 1 ∷ cross 1 1 1 ∷ []) 1 ∷ [])

-- the library of the two tiles, whose files stand behind that of the table of tiles
abbrev pub tiles_with : ℕ → CoverageTables
tiles_with mark = record {
  is_tiled = true;
  paths = codes "t1" ∷ codes "t2" ∷ [];
  tiles = None
      ∷ Some (record { first = 1; tables = tile_with (first_edges mark) })
      ∷ Some (record { first = 6; tables = tile_with second_edges }) ∷ [];
}

-- nothing is found in it, and a line that isn't marked is
abbrev pub TilesAreFound : Type 0
TilesAreFound = (topology_finding (tiles_with 1) ≡ None)
    × (topology_finding (tiles_with 0) ≡ Some (record { rule = 5; tile = 1; table = Edg; file = 1; row = 2; column = codes "tile_line"; found = CellSeen S (number_held 0); wanted = CellSeen S (number_held 1) }))
