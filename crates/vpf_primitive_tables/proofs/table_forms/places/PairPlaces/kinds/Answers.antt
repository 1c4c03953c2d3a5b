use Rattle.vpf_primitive_tables.proofs.table_forms.NewCellLemmas.{pair_kinds_are}
use Rattle.vpf_primitive_tables.proofs.table_forms.places.PairPlaces.kinds.Goals as goal

pub returns : goal.returns
returns c = λ name columns a. (let e = pair_kinds_are name columns c.args.self a in cc)
