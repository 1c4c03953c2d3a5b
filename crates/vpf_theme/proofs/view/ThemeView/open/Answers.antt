use Rattle.std.proofs.Common.{arith}
use Rattle.vpf_theme.proofs.EntryFaults.{refused_is_faulty}
use Rattle.vpf_theme.proofs.view.ThemeView.open.Goals as goal

pub returns-clause-only : goal.returns-clause-only
returns-clause-only c = λ t i. let e = c.spelled_is_read.ensures c.args.order t c.args.bytes.now i in rw e at c.read.ensures

pub returns-clause-refused : goal.returns-clause-refused
returns-clause-refused c = refused_is_faulty c.read.result c.args.order c.args.bytes.now (λ p e. c.refusals_are_first_faults.ensures.only c.args.order c.args.bytes.now p (λ i. omega (arith, c.type_inv.bytes i)) e) c.read.ensures
