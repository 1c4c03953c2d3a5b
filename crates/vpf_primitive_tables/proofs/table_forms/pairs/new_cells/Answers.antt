use Rattle.vpf_primitive_tables.proofs.table_forms.NewCellLemmas.{pair_values_are}
use Rattle.vpf_primitive_tables.proofs.table_forms.pairs.new_cells.Goals as goal

pub returns : goal.returns
returns c = λ name columns a. (let whole = pair_values_are name columns c.args.places c.args.number c.args.reference a in cc)
