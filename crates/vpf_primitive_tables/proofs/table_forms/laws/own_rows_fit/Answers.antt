use Rattle.vpf_primitive_tables.specs.TableForms.Forms.{edge_kinds_of, edge_values_of, pair_kinds, pair_values}
use Rattle.vpf_primitive_tables.proofs.table_forms.SameColumns.{edge_same, pair_same}
use Rattle.vpf_primitive_tables.proofs.table_forms.laws.own_rows_fit.Goals as goal

pub returns-clause-edges : goal.returns-clause-edges
returns-clause-edges c = λ kind columns row fits k v.
    c.revised_rows_fit.ensures.same (edge_kinds_of kind columns) (edge_values_of columns k v) columns row (edge_same kind columns k v) fits

pub returns-clause-pairs : goal.returns-clause-pairs
returns-clause-pairs c = λ name columns row fits k n.
    c.revised_rows_fit.ensures.same (pair_kinds name columns) (pair_values name columns k n) columns row (pair_same name columns k n) fits
