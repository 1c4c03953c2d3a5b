-- Where the columns of ids and references stand in tables of primitives.
use Rattle.std.specs.Prelude.{◌≡◌, ℕ, true, Some, List, codes, slice_get}
use Rattle.std.specs.Option.{IsSomeAnd}
use Rattle.vpf_triplet.specs.declared.kinds.Count.TheVariants.{Fixed}
use Rattle.vpf_head.specs.Head.{Col, names_rows, place_of}
use Rattle.vpf_prims.specs.Columns.{column_of}
use Rattle.vpf_primitive_tables.specs.declared.table_forms.places.EdgePlaces.{EdgePlaces}
use Rattle.vpf_primitive_tables.specs.declared.table_forms.places.PairPlaces.{PairPlaces}
use Rattle.vpf_primitive_tables.specs.declared.table_forms.places.RingPlaces.{RingPlaces}

-- the column of this name is there, and its cells can name rows
abbrev pub NamesRows : List Col → List ℕ → Type 0
NamesRows columns name = IsSomeAnd (column_of columns name) (λ column. names_rows column.kind ≡ true)

-- the column of this name stands at this position, from 0, and has one value
pub record IsColumnAt (columns : List Col) (name : List ℕ) (c : ℕ) : Type 0 where
  pub place : place_of name columns ≡ Some c
  pub one : IsSomeAnd (slice_get columns c) (λ column. column.count ≡ Fixed 1)

-- the places of the columns of edges
pub record AreEdgePlaces (columns : List Col) (p : EdgePlaces) : Type 0 where
  pub id : IsColumnAt columns (codes "id") p.id
  pub start_node : IsColumnAt columns (codes "start_node") p.start_node
  pub end_node : IsColumnAt columns (codes "end_node") p.end_node
  pub right_face : IsColumnAt columns (codes "right_face") p.right_face
  pub left_face : IsColumnAt columns (codes "left_face") p.left_face
  pub right_edge : IsColumnAt columns (codes "right_edge") p.right_edge
  pub left_edge : IsColumnAt columns (codes "left_edge") p.left_edge

-- those of ids and of the references of one other column
pub record ArePairPlaces (name : List ℕ) (columns : List Col) (p : PairPlaces) : Type 0 where
  pub id : IsColumnAt columns (codes "id") p.id
  pub reference : IsColumnAt columns name p.reference

-- those of the columns of rings
pub record AreRingPlaces (columns : List Col) (p : RingPlaces) : Type 0 where
  pub id : IsColumnAt columns (codes "id") p.id
  pub face : IsColumnAt columns (codes "face_id") p.face
  pub start_edge : IsColumnAt columns (codes "start_edge") p.start_edge
