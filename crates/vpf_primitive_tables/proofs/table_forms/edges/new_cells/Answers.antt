use Rattle.std.proofs.Common.{◌∙◌, sym}
use Rattle.vpf_primitive_tables.specs.Inner.TableForms.Models.{values_of_edge}
use Rattle.vpf_primitive_tables.proofs.table_forms.NewCellLemmas.{edge_values_are, seven_same}
use Rattle.vpf_primitive_tables.proofs.table_forms.edges.new_cells.Goals as goal

pub returns : goal.returns
returns c = λ columns a.
    seven_same c.new_number.ensures c.new_cell.ensures c.new_cell-2.ensures c.new_cell-3.ensures c.new_cell-4.ensures c.new_cell-5.ensures c.new_cell-6.ensures
    ∙ sym (edge_values_are columns c.args.places c.args.number (values_of_edge c.args.references.now) a)
