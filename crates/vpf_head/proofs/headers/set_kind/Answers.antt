use Rattle.std.proofs.Common.{refl}
use Rattle.vpf_head.proofs.Entries.{columns-set_kind, AreNamed-set}
use Rattle.vpf_head.proofs.headers.set_kind.Goals as goal

pub returns-clause-columns : goal.returns-clause-columns
returns-clause-columns c = columns-set_kind c.args.columns.now.entries c.args.c _ _ c.args.kind c.pair_mut-column.ensures.value

pub returns-clause-named : goal.returns-clause-named
returns-clause-named c = AreNamed-set c.args.columns.now.entries c.args.c _ _ _ refl c.pair_mut-column.ensures.value c.requires.named
