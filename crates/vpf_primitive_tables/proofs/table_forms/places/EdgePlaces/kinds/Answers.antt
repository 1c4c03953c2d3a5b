use Rattle.vpf_primitive_tables.proofs.table_forms.NewCellLemmas.{edge_kinds_are}
use Rattle.vpf_primitive_tables.proofs.table_forms.places.EdgePlaces.kinds.Goals as goal

pub returns : goal.returns
returns c = λ columns a. (let e = edge_kinds_are c.args.references columns c.args.self a in cc)
