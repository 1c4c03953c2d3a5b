use Rattle.vpf_theme.proofs.ValueLemmas.{never_cut}
use Rattle.vpf_theme.proofs.entries.value_at.Goals as goal

pub unreachable-requires : goal.unreachable-requires
unreachable-requires c = never_cut c.args.layout.now c.args.bytes.now c.args.i c.in-Err.field-0.code c.fixed_cells.ensures c.requires.values c.requires.whole (rw c.entry_start-at.ensures.value at c.in-Err.ensures.exact.0)
