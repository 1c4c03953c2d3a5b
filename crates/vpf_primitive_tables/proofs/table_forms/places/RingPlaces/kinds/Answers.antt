use Rattle.vpf_primitive_tables.proofs.table_forms.NewCellLemmas.{ring_kinds_are}
use Rattle.vpf_primitive_tables.proofs.table_forms.places.RingPlaces.kinds.Goals as goal

pub returns : goal.returns
returns c = λ columns a. (let e = ring_kinds_are columns c.args.self a in cc)
