-- Tables of primitives that are written like others: each has the header of another table, with other kinds for ids and references, and rows
-- of such tables with new ids and references; every other value stays (MIL-STD-2407, 5.2.2, primitives).
use Rattle.std.specs.Prelude.{ℕ, pos, List, ◌++◌, map, codes}
use Rattle.std.specs.Option.{option_map, option_to_list}
use Rattle.vpf_triplet.specs.declared.kinds.Count.TheVariants.{Fixed}
use Rattle.vpf_triplet.specs.declared.kinds.Kind.{Kind}
use Rattle.vpf_triplet.specs.declared.kinds.Kind.TheVariants as kinds
use Rattle.vpf_value.specs.Inner.Fitting.{FitsCell}
use Rattle.vpf_value.specs.Values.{Value, NumberOf, Nothing}
use Rattle.vpf_head.specs.Head.{Col, Head, place_of}
use Rattle.vpf_table.specs.Grid.{Row, Grid}
use Rattle.vpf_write.specs.declared.revise.changes.NewKind.{NewKind}
use Rattle.vpf_write.specs.Revise.Revising.{NewValue, head_with_kinds, revised}
use Rattle.vpf_tiling.specs.Ranks.{numbered}
use Rattle.vpf_tiling.specs.Tiles.{Ring}

-- a number, from 0 up, as a value
abbrev pub natural_value : ℕ → Value
natural_value n = NumberOf (pos n)

-- a new kind for the column of a name, where there is one
abbrev pub named_kind : List Col → List ℕ → Kind → List NewKind
named_kind columns name kind = option_to_list (option_map (λ c. record { column = c; kind = kind }) (place_of name columns))

-- a new value for the column of a name, where there is one
abbrev pub named_value : List Col → List ℕ → Value → List NewValue
named_value columns name v = option_to_list (option_map (λ c. record { column = c; value = v }) (place_of name columns))

-- the header of another table, with new kinds
abbrev pub head_like : Grid → (List Col → List NewKind) → Head
head_like grid kinds = head_with_kinds (kinds grid.head.columns) grid.head

-- a table with the header of another one, with new kinds, and these rows
abbrev pub table_like : Grid → (List Col → List NewKind) → List Row → Grid
table_like grid kinds rows = record { head = head_like grid kinds; rows = rows }

-- ids are numbers
abbrev pub id_kinds : List Col → List NewKind
id_kinds columns = named_kind columns (codes "id") kinds.I

-- the six references of an edge, as values
pub record EdgeValues : Type 0 where
  pub start_node : Value
  pub end_node : Value
  pub right_face : Value
  pub left_face : Value
  pub right_edge : Value
  pub left_edge : Value

-- they fit columns of this kind
pub record AreOfKind (kind : Kind) (v : EdgeValues) : Type 0 where
  pub start_node : FitsCell kind (Fixed 1) v.start_node
  pub end_node : FitsCell kind (Fixed 1) v.end_node
  pub right_face : FitsCell kind (Fixed 1) v.right_face
  pub left_face : FitsCell kind (Fixed 1) v.left_face
  pub right_edge : FitsCell kind (Fixed 1) v.right_edge
  pub left_edge : FitsCell kind (Fixed 1) v.left_edge

-- ids of edges are numbers, and their six references are of this kind
abbrev pub edge_kinds_of : Kind → List Col → List NewKind
edge_kinds_of kind columns =
    id_kinds columns
    ++ (named_kind columns (codes "start_node") kind
    ++ (named_kind columns (codes "end_node") kind
    ++ (named_kind columns (codes "right_face") kind
    ++ (named_kind columns (codes "left_face") kind
    ++ (named_kind columns (codes "right_edge") kind
    ++ named_kind columns (codes "left_edge") kind)))))

-- the new values of edge k
abbrev pub edge_values_of : List Col → ℕ → EdgeValues → List NewValue
edge_values_of columns k v =
    named_value columns (codes "id") (natural_value k)
    ++ (named_value columns (codes "start_node") v.start_node
    ++ (named_value columns (codes "end_node") v.end_node
    ++ (named_value columns (codes "right_face") v.right_face
    ++ (named_value columns (codes "left_face") v.left_face
    ++ (named_value columns (codes "right_edge") v.right_edge
    ++ named_value columns (codes "left_edge") v.left_edge)))))

-- ids, and the references of one other column, are numbers
abbrev pub pair_kinds : List ℕ → List Col → List NewKind
pair_kinds name columns = id_kinds columns ++ named_kind columns name kinds.I

-- the new values of row k, which names n in that column
abbrev pub pair_values : List ℕ → List Col → (k n : ℕ) → List NewValue
pair_values name columns k n = named_value columns (codes "id") (natural_value k) ++ named_value columns name (natural_value n)

-- the kinds of rings, which have no other columns
abbrev pub ring_kinds : List Col → List NewKind
ring_kinds columns = id_kinds columns ++ (named_kind columns (codes "face_id") kinds.I ++ named_kind columns (codes "start_edge") kinds.I)

-- the values of ring k
abbrev pub ring_values : List Col → ℕ → Ring → List NewValue
ring_values columns k r =
    named_value columns (codes "id") (natural_value k)
    ++ (named_value columns (codes "face_id") (natural_value r.face) ++ named_value columns (codes "start_edge") (natural_value r.edge))

-- a row of nothing
abbrev pub bare_row : List Col → Row
bare_row columns = map (λ column. Nothing) columns

-- the row of ring k
abbrev pub ring_row : List Col → ℕ → Ring → Row
ring_row columns k r = revised (ring_values columns k r) (bare_row columns)

-- a table of these rings
abbrev pub rings_like : Grid → List Ring → Grid
rings_like grid rings = table_like grid ring_kinds (numbered (ring_row grid.head.columns) rings)
