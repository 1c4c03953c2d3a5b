-- The tables of a small coverage of roads with its features: three edges between two nodes, and two faces beside the universe, each in a tile of its own. Edges
-- carry the number of their road, a row of the feature table, one of whose columns has a thematic index.
use Rattle.std.specs.Prelude.{ℕ, List, [], ◌∷◌, None, Some, codes, map}
use Rattle.vpf_triplet.specs.declared.kinds.Kind.TheVariants as kinds
use Rattle.vpf_triplet.specs.declared.kinds.Count.TheVariants.{Fixed}
use Rattle.vpf_value.specs.Values.{TextOf}
use Rattle.vpf_head.specs.declared.columns.Key.TheVariants.{Many}
use Rattle.vpf_head.specs.Head.{Col}
use Rattle.vpf_table.specs.Grid.{Row, Grid}
use Rattle.vpf_theme.specs.declared.layout.Form.TheVariants as forms
use Rattle.vpf_theme.specs.Entries.{Theme}
use Rattle.vpf_theme.specs.Findings.{cells_of}
use Rattle.vpf_theme_build.specs.Building.{index_for}
use Rattle.vpf_prims.specs.Reading.{PrimitiveTables}
use Rattle.vpf_feature_files.specs.Schemas.{FeatureTable, Schema}
use Rattle.vpf_vectors.specs.Heads.{column, face_head, ids, node_head, numbers, plain_head, plan_head, tileref_head}
use Rattle.vpf_vectors.specs.Tables.{cell_of_number, pair_table, ring_table}

-- a row of numbers
abbrev pub worked_row : List ℕ → Row
worked_row cells = map cell_of_number cells

-- the edges: id, nodes, faces and wings, and the road
abbrev pub worked_edges : Grid
worked_edges = record {
  head = plain_head (codes "Edges") (
      ids (codes "Id")
      ∷ numbers (codes "start_node") (codes "Start")
      ∷ numbers (codes "end_node") (codes "End")
      ∷ numbers (codes "right_face") (codes "Right")
      ∷ numbers (codes "left_face") (codes "Left")
      ∷ numbers (codes "right_edge") (codes "Right")
      ∷ numbers (codes "left_edge") (codes "Left")
      ∷ numbers (codes "road_id") (codes "Road")
      ∷ []);
  rows = worked_row (1 ∷ 1 ∷ 2 ∷ 2 ∷ 1 ∷ 3 ∷ 2 ∷ 1 ∷ [])
      ∷ worked_row (2 ∷ 2 ∷ 1 ∷ 3 ∷ 1 ∷ 3 ∷ 1 ∷ 2 ∷ [])
      ∷ worked_row (3 ∷ 1 ∷ 2 ∷ 3 ∷ 2 ∷ 2 ∷ 1 ∷ 3 ∷ [])
      ∷ [];
}

-- the faces and their first rings
abbrev pub worked_faces : Grid
worked_faces = pair_table face_head 1 (1 ∷ 2 ∷ 3 ∷ [])

-- the rings, by their faces and start edges
abbrev pub worked_rings : Grid
worked_rings =
    ring_table (record { face_id = 1; start_edge = 1 } ∷ record { face_id = 2; start_edge = 1 } ∷ record { face_id = 3; start_edge = 2 } ∷ [])

-- the nodes and their first edges
abbrev pub worked_nodes : Grid
worked_nodes = pair_table node_head 1 (1 ∷ 1 ∷ [])

-- the tables of the coverage
abbrev pub worked_tables : PrimitiveTables
worked_tables = record { edg = worked_edges; fac = worked_faces; rng = worked_rings; cnd = worked_nodes; end = None }

-- the tiles
abbrev pub worked_tiles : Grid
worked_tiles = record {
  head = tileref_head;
  rows = (cell_of_number 1 ∷ TextOf (codes "west    ") ∷ []) ∷ (cell_of_number 2 ∷ TextOf (codes "east    ") ∷ []) ∷ [];
}

-- the plan: face 2 is in tile 1, and face 3 in tile 2
abbrev pub worked_plan : Grid
worked_plan = pair_table plan_head 2 (1 ∷ 2 ∷ [])

-- a column of items of 8 bytes
abbrev pub item_column : List ℕ → List ℕ → Col
item_column name description = column name kinds.T (Fixed 8) Many description

-- the feature class schema table: roads are joined to the edges that carry their numbers
abbrev pub worked_classes : Grid
worked_classes = record {
  head = plain_head (codes "Classes") (
      ids (codes "Id")
      ∷ item_column (codes "feature_class") (codes "Class")
      ∷ item_column (codes "table1") (codes "Table")
      ∷ item_column (codes "table1_key") (codes "Key")
      ∷ item_column (codes "table2") (codes "Table")
      ∷ item_column (codes "table2_key") (codes "Key")
      ∷ []);
  rows = (
      cell_of_number 1
      ∷ TextOf (codes "road    ")
      ∷ TextOf (codes "road.lft")
      ∷ TextOf (codes "id      ")
      ∷ TextOf (codes "edg     ")
      ∷ TextOf (codes "road_id ")
      ∷ [])
      ∷ [];
}

-- the column of how many lanes a road has, and its thematic index
abbrev pub worked_lanes : Col
worked_lanes = record {
  name = codes "lanes";
  kind = kinds.I;
  count = Fixed 1;
  key = Many;
  description = codes "Lanes";
  values = None;
  theme = Some (codes "lanes.ti");
  narrative = None;
}

-- the roads: id and lanes
abbrev pub worked_roads : Grid
worked_roads = record {
  head = plain_head (codes "Roads") (ids (codes "Id") ∷ worked_lanes ∷ []);
  rows = worked_row (1 ∷ 2 ∷ []) ∷ worked_row (2 ∷ 4 ∷ []) ∷ worked_row (3 ∷ 2 ∷ []) ∷ [];
}

-- the thematic index of their lanes
abbrev pub worked_index : Theme
worked_index = index_for forms.List worked_lanes 1 (cells_of worked_roads 1)

-- the feature table with it
abbrev pub worked_features : FeatureTable
worked_features = record { name = codes "road.lft"; grid = worked_roads; indexes = None ∷ Some (record { file = codes "lanes.ti"; theme = worked_index }) ∷ [] }

-- the features of the coverage
abbrev pub worked_schema : Schema
worked_schema = record { fcs = Some worked_classes; tables = worked_features ∷ [] }
