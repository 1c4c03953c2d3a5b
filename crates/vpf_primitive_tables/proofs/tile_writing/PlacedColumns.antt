-- Where the columns of ids and references stand in the tables of a coverage, by their roles.
use Rattle.std.proofs.Common.{◌≡◌, ℕ, List, codes, Option, Some, None, refl}
use Rattle.std.specs.Prelude.{All}
use Rattle.vpf_head.specs.Head.{Col, place_of}
use Rattle.vpf_head.specs.Inner.Soundness.{IsCounted, IsSound}
use Rattle.vpf_prims.specs.Columns.{column_of}
use Rattle.vpf_prims.specs.Roles.{edge_roles, entity_roles, face_roles, node_roles, number_role, reference_role, ring_roles}
use Rattle.vpf_prims.specs.Suiting.{HasRoles, SuitsRole}
use Rattle.vpf_table.specs.Grid.{Grid}
use Rattle.vpf_primitive_tables.specs.Inner.TableForms.Places.{AreEdgePlaces, ArePairPlaces, AreRingPlaces, IsColumnAt, NamesRows}
use Rattle.vpf_primitive_tables.proofs.table_forms.ColumnLemmas.{is_there, number_names, stands}
use Rattle.vpf_primitive_tables.specs.Inner.TableForms.ColumnLaws.{reference_names}

-- the place of a column that is there, which has one value
pub record HasPlace (columns : List Col) (name : List ℕ) : Type 0 where
  pub place : ℕ
  pub at : IsColumnAt columns name place

placed : (columns : List Col) (name : List ℕ) (o : Option ℕ) → place_of name columns ≡ o → All IsCounted columns → NamesRows columns name
    → HasPlace columns name
placed columns name None e counts there = absurd (is_there columns name there e)
placed columns name (Some c) e counts there = record { place = c; at = stands columns name c counts there e }

-- that of a number
pub number_at : (columns : List Col) (name : List ℕ) → All IsCounted columns → SuitsRole (number_role name) (column_of columns name) → HasPlace columns name
number_at columns name counts suits = placed columns name (place_of name columns) refl counts (number_names name (column_of columns name) suits)

-- that of a reference
reference_at : (columns : List Col) (name : List ℕ) → All IsCounted columns → SuitsRole (reference_role name) (column_of columns name) → HasPlace columns name
reference_at columns name counts suits = placed columns name (place_of name columns) refl counts (reference_names name (column_of columns name) suits)

-- ---- tables with one column of references

-- the places of ids and of that column; the crate of these tables keeps the type of places to itself, so that it is left out here
pub record HasPairPlaces (name : List ℕ) (columns : List Col) : Type 0 where
  pub places : _
  pub are : ArePairPlaces name columns places

pair_places : (name : List ℕ) (columns : List Col) → All IsCounted columns → SuitsRole (number_role (codes "id")) (column_of columns (codes "id"))
    → SuitsRole (reference_role name) (column_of columns name) → HasPairPlaces name columns
pair_places name columns counts id suits =
    let first : HasPlace columns (codes "id") = number_at columns (codes "id") counts id in
    let second : HasPlace columns name = reference_at columns name counts suits in
    record { places = record { id = first.place; reference = second.place }; are = record { id = first.at; reference = second.at } }

-- in the tables of faces, of nodes and of entity nodes
pub face_places : (grid : Grid) → IsSound grid.head → HasRoles face_roles grid → HasPairPlaces (codes "ring_ptr") grid.head.columns
face_places grid sound roles = pair_places (codes "ring_ptr") grid.head.columns sound.counts roles.0 roles.1.0

pub node_places : (grid : Grid) → IsSound grid.head → HasRoles node_roles grid → HasPairPlaces (codes "first_edge") grid.head.columns
node_places grid sound roles = pair_places (codes "first_edge") grid.head.columns sound.counts roles.0 roles.1.0

pub entity_places : (grid : Grid) → IsSound grid.head → HasRoles entity_roles grid → HasPairPlaces (codes "containing_face") grid.head.columns
entity_places grid sound roles = pair_places (codes "containing_face") grid.head.columns sound.counts roles.0 roles.1.0

-- ---- rings

-- the places of their columns
pub record HasRingPlaces (columns : List Col) : Type 0 where
  pub places : _
  pub are : AreRingPlaces columns places

pub ring_places : (grid : Grid) → IsSound grid.head → HasRoles ring_roles grid → HasRingPlaces grid.head.columns
ring_places grid sound roles =
    let columns : List Col = grid.head.columns in
    let id : HasPlace columns (codes "id") = number_at columns (codes "id") sound.counts roles.0 in
    let face : HasPlace columns (codes "face_id") = reference_at columns (codes "face_id") sound.counts roles.1.0 in
    let start_edge : HasPlace columns (codes "start_edge") = reference_at columns (codes "start_edge") sound.counts roles.1.1.0 in
    record {
      places = record { id = id.place; face = face.place; start_edge = start_edge.place };
      are = record { id = id.at; face = face.at; start_edge = start_edge.at };
    }

-- ---- edges

-- the places of their columns
pub record HasEdgePlaces (columns : List Col) : Type 0 where
  pub places : _
  pub are : AreEdgePlaces columns places

pub edge_places : (grid : Grid) → IsSound grid.head → HasRoles edge_roles grid → HasEdgePlaces grid.head.columns
edge_places grid sound roles =
    let columns : List Col = grid.head.columns in
    let id : HasPlace columns (codes "id") = number_at columns (codes "id") sound.counts roles.0 in
    let start_node : HasPlace columns (codes "start_node") = reference_at columns (codes "start_node") sound.counts roles.1.0 in
    let end_node : HasPlace columns (codes "end_node") = reference_at columns (codes "end_node") sound.counts roles.1.1.0 in
    let right_face : HasPlace columns (codes "right_face") = reference_at columns (codes "right_face") sound.counts roles.1.1.1.0 in
    let left_face : HasPlace columns (codes "left_face") = reference_at columns (codes "left_face") sound.counts roles.1.1.1.1.0 in
    let right_edge : HasPlace columns (codes "right_edge") = reference_at columns (codes "right_edge") sound.counts roles.1.1.1.1.1.0 in
    let left_edge : HasPlace columns (codes "left_edge") = reference_at columns (codes "left_edge") sound.counts roles.1.1.1.1.1.1.0 in
    record {
      places = record {
        id = id.place;
        start_node = start_node.place;
        end_node = end_node.place;
        right_face = right_face.place;
        left_face = left_face.place;
        right_edge = right_edge.place;
        left_edge = left_edge.place;
      };
      are = record {
        id = id.at;
        start_node = start_node.at;
        end_node = end_node.at;
        right_face = right_face.at;
        left_face = left_face.at;
        right_edge = right_edge.at;
        left_edge = left_edge.at;
      };
    }
