use Rattle.std.specs.Prelude.{codes}
use Rattle.vpf_prims.specs.Columns.{column_of}
use Rattle.vpf_primitive_tables.proofs.table_forms.ColumnLemmas.{number_names}
use Rattle.vpf_primitive_tables.specs.Inner.TableForms.ColumnLaws.{reference_names}
use Rattle.vpf_primitive_tables.proofs.table_forms.places.EdgePlaces.of.Goals as goal

pub place_in-requires : goal.place_in-requires
place_in-requires c = rw c.header-header.ensures (number_names (codes "id") (column_of c.args.table.now.head.columns (codes "id")) c.requires.0)

pub place_in-requires-2 : goal.place_in-requires-2
place_in-requires-2 c = rw c.header-header.ensures (reference_names (codes "start_node") (column_of c.args.table.now.head.columns (codes "start_node")) c.requires.1.0)

pub place_in-requires-3 : goal.place_in-requires-3
place_in-requires-3 c = rw c.header-header.ensures (reference_names (codes "end_node") (column_of c.args.table.now.head.columns (codes "end_node")) c.requires.1.1.0)

pub place_in-requires-4 : goal.place_in-requires-4
place_in-requires-4 c = rw c.header-header.ensures (reference_names (codes "right_face") (column_of c.args.table.now.head.columns (codes "right_face")) c.requires.1.1.1.0)

pub place_in-requires-5 : goal.place_in-requires-5
place_in-requires-5 c = rw c.header-header.ensures (reference_names (codes "left_face") (column_of c.args.table.now.head.columns (codes "left_face")) c.requires.1.1.1.1.0)

pub place_in-requires-6 : goal.place_in-requires-6
place_in-requires-6 c = rw c.header-header.ensures (reference_names (codes "right_edge") (column_of c.args.table.now.head.columns (codes "right_edge")) c.requires.1.1.1.1.1.0)

pub place_in-requires-7 : goal.place_in-requires-7
place_in-requires-7 c = rw c.header-header.ensures (reference_names (codes "left_edge") (column_of c.args.table.now.head.columns (codes "left_edge")) c.requires.1.1.1.1.1.1.0)

pub returns : goal.returns
returns c = record {
  id = rw c.header-header.ensures at c.place_in.ensures;
  start_node = rw c.header-header.ensures at c.place_in-2.ensures;
  end_node = rw c.header-header.ensures at c.place_in-3.ensures;
  right_face = rw c.header-header.ensures at c.place_in-4.ensures;
  left_face = rw c.header-header.ensures at c.place_in-5.ensures;
  right_edge = rw c.header-header.ensures at c.place_in-6.ensures;
  left_edge = rw c.header-header.ensures at c.place_in-7.ensures;
}
