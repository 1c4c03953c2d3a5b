use Rattle.std.specs.Prelude.{codes}
use Rattle.vpf_prims.specs.Columns.{column_of}
use Rattle.vpf_primitive_tables.proofs.table_forms.ColumnLemmas.{number_names}
use Rattle.vpf_primitive_tables.specs.Inner.TableForms.ColumnLaws.{reference_names}
use Rattle.vpf_primitive_tables.proofs.table_forms.places.RingPlaces.of.Goals as goal

pub place_in-requires : goal.place_in-requires
place_in-requires c = rw c.header-header.ensures (number_names (codes "id") (column_of c.args.table.now.head.columns (codes "id")) c.requires.0)

pub place_in-requires-2 : goal.place_in-requires-2
place_in-requires-2 c = rw c.header-header.ensures (reference_names (codes "face_id") (column_of c.args.table.now.head.columns (codes "face_id")) c.requires.1.0)

pub place_in-requires-3 : goal.place_in-requires-3
place_in-requires-3 c = rw c.header-header.ensures (reference_names (codes "start_edge") (column_of c.args.table.now.head.columns (codes "start_edge")) c.requires.1.1.0)

pub returns : goal.returns
returns c = record {
  id = rw c.header-header.ensures at c.place_in.ensures;
  face = rw c.header-header.ensures at c.place_in-2.ensures;
  start_edge = rw c.header-header.ensures at c.place_in-3.ensures;
}
