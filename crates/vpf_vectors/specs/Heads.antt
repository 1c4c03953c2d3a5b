-- The headers of the tables of a coverage (MIL-STD-2407, 5.4, table header): columns of numbers, and the names of tiles.
use Rattle.std.specs.Prelude.{ℕ, List, [], ◌∷◌, None, codes}
use Rattle.vpf_base.specs.declared.orders.Order.TheVariants.{Little}
use Rattle.vpf_triplet.specs.declared.kinds.Kind.{Kind}
use Rattle.vpf_triplet.specs.declared.kinds.Kind.TheVariants as kinds
use Rattle.vpf_triplet.specs.declared.kinds.Count.{Count}
use Rattle.vpf_triplet.specs.declared.kinds.Count.TheVariants.{Fixed}
use Rattle.vpf_head.specs.declared.columns.Key.{Key}
use Rattle.vpf_head.specs.declared.columns.Key.TheVariants.{Primary, Many}
use Rattle.vpf_head.specs.Head.{Head, Col}

-- how many bytes the name of a tile has
abbrev pub name_width : ℕ
name_width = 8

-- a column that refers to no file
abbrev pub column : List ℕ → Kind → Count → Key → List ℕ → Col
column name kind count key description =
    record { name = name; kind = kind; count = count; key = key; description = description; values = None; theme = None; narrative = None }

-- the column of the ids of rows
abbrev pub ids : List ℕ → Col
ids description = column (codes "id") kinds.I (Fixed 1) Primary description

-- a column of numbers of 4 bytes
abbrev pub numbers : List ℕ → List ℕ → Col
numbers name description = column name kinds.I (Fixed 1) Many description

-- a header in order L without a narrative
abbrev pub plain_head : List ℕ → List Col → Head
plain_head description columns = record { order = Little; description = description; narrative = None; columns = columns }

-- the tiles of a library
abbrev pub tileref_head : Head
tileref_head = plain_head (codes "Tiles") (ids (codes "Id") ∷ column (codes "tile_name") kinds.T (Fixed name_width) Many (codes "Name") ∷ [])

abbrev pub edge_head : Head
edge_head = plain_head (codes "Edges") (
    ids (codes "Id")
    ∷ numbers (codes "start_node") (codes "Start")
    ∷ numbers (codes "end_node") (codes "End")
    ∷ numbers (codes "right_face") (codes "Right")
    ∷ numbers (codes "left_face") (codes "Left")
    ∷ numbers (codes "right_edge") (codes "Right")
    ∷ numbers (codes "left_edge") (codes "Left")
    ∷ column (codes "tile_line") kinds.S (Fixed 1) Many (codes "Line")
    ∷ [])

abbrev pub face_head : Head
face_head = plain_head (codes "Faces") (ids (codes "Id") ∷ numbers (codes "ring_ptr") (codes "Ring") ∷ [])

abbrev pub ring_head : Head
ring_head = plain_head (codes "Rings") (ids (codes "Id") ∷ numbers (codes "face_id") (codes "Face") ∷ numbers (codes "start_edge") (codes "Edge") ∷ [])

abbrev pub node_head : Head
node_head = plain_head (codes "Nodes") (ids (codes "Id") ∷ numbers (codes "first_edge") (codes "Edge") ∷ [])

-- the home tile of each face
abbrev pub plan_head : Head
plan_head = plain_head (codes "Plan") (ids (codes "Face") ∷ numbers (codes "tile_id") (codes "Tile") ∷ [])
