-- The tables that others are written like, as the code keeps them.
use Rattle.std.specs.Prelude.{◌≡◌, ℕ, ◌<◌, ◌^◌, List, [], length, vec_len}
use Rattle.vpf_triplet.specs.declared.kinds.Kind.{Kind}
use Rattle.vpf_value.specs.Values.{view}
use Rattle.vpf_table.specs.Grid.{Grid}
use Rattle.vpf_write.specs.Inner.Tallies.{Tally}
use Rattle.vpf_prims.specs.Roles.{ring_roles}
use Rattle.vpf_prims.specs.Suiting.{carried_columns}
use Rattle.vpf_tiling.specs.Tiles.{Ring}
use Rattle.vpf_primitive_tables.specs.declared.table_forms.edges.EdgeCells.{EdgeCells}
use Rattle.vpf_primitive_tables.specs.declared.table_forms.edges.EdgeForm.TheInside.{Inside as EdgeFormInside}
use Rattle.vpf_primitive_tables.specs.declared.table_forms.pairs.PairForm.TheInside.{Inside as PairFormInside}
use Rattle.vpf_primitive_tables.specs.declared.table_forms.rings.RingForm.TheInside.{Inside as RingFormInside}
use Rattle.vpf_primitive_tables.specs.declared.table_forms.rings.RingTable.TheInside.{Inside as RingTableInside}
use Rattle.vpf_primitive_tables.specs.TableForms.Forms.{EdgeValues, edge_kinds_of, head_like, pair_kinds, ring_kinds}
use Rattle.vpf_primitive_tables.specs.Inner.TableForms.Places.{AreEdgePlaces, ArePairPlaces, AreRingPlaces}

-- what the cells of the references of an edge say
abbrev pub values_of_edge : EdgeCells → EdgeValues
values_of_edge cells = record {
  start_node = view cells.start_node;
  end_node = view cells.end_node;
  right_face = view cells.right_face;
  left_face = view cells.left_face;
  right_edge = view cells.right_edge;
  left_edge = view cells.left_edge;
}

-- the table of edges that others are like, and the kind of their references
pub record EdgesLike : Type 0 where
  pub table : Grid
  pub references : Kind

-- a table with one column of references, that others are like, and the name of that column
pub record PairsLike : Type 0 where
  pub table : Grid
  pub name : List ℕ

-- a table of rings that is being written, and the one that it is like
pub record RingsPut : Type 0 where
  pub like : Grid
  pub tally : Tally

-- how edges are kept
abbrev pub edges_like : EdgeFormInside → EdgesLike
edges_like f = record { table = f.table.now; references = f.references }

-- the header and the places are those of the table of edges
pub record IsEdgeForm (f : EdgeFormInside) : Type 0 where
  pub header : f.header ≡ head_like f.table.now (edge_kinds_of f.references)
  pub places : AreEdgePlaces f.table.now.head.columns f.places

-- how a table with one column of references is kept
abbrev pub pairs_like : PairFormInside → PairsLike
pairs_like f = record { table = f.table.now; name = f.name.now }

-- the header and the places are those of this table
pub record IsPairForm (f : PairFormInside) : Type 0 where
  pub header : f.header ≡ head_like f.table.now (pair_kinds f.name.now)
  pub places : ArePairPlaces f.name.now f.table.now.head.columns f.places

-- those of the table of rings, which has no other columns
pub record IsRingForm (f : RingFormInside) : Type 0 where
  pub header : f.header ≡ head_like f.table.now ring_kinds
  pub places : AreRingPlaces f.table.now.head.columns f.places
  pub bare : carried_columns ring_roles f.table.now.head.columns ≡ []

-- how a table of rings is written
abbrev pub rings_put : RingTableInside → RingsPut
rings_put t = record { like = t.form.now; tally = t.writer }

-- its header is like that of the other, and there is a cell for each column
pub record IsRingTable (t : RingTableInside) : Type 0 where
  pub head : t.writer.head ≡ head_like t.form.now ring_kinds
  pub width : vec_len t.cells ≡ length t.form.now.head.columns

-- the numbers of a ring fit cells of 4 bytes
pub record IsSmallRing (r : Ring) : Type 0 where
  pub face : r.face < 2 ^ 31
  pub edge : r.edge < 2 ^ 31
