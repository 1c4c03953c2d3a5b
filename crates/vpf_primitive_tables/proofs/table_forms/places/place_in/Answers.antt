use Rattle.std.proofs.Common.{sym, ◌∙◌}
use Rattle.vpf_primitive_tables.proofs.table_forms.ColumnLemmas.{stands}
use Rattle.vpf_primitive_tables.proofs.table_forms.places.place_in.Goals as goal

pub returns : goal.returns
returns c = stands c.args.header.now.columns c.args.name.now c.in-Some.place c.len-columns.ensures.sound.counts c.requires (sym c.column.ensures ∙ c.in-Some.is)
