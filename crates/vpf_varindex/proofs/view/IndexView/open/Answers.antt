use Rattle.std.proofs.Common.{arith}
use Rattle.vpf_varindex.proofs.IndexLaws.{opened_is_spelled, refused_is_faulty, spelled_is_opened}
use Rattle.vpf_varindex.proofs.view.IndexView.open.Goals as goal

pub returns-clause-found : goal.returns-clause-found
returns-clause-found c = opened_is_spelled c.read.result c.args.order c.args.bytes.now (λ i. omega (arith, c.type_inv.bytes i)) c.read.ensures

pub returns-clause-only : goal.returns-clause-only
returns-clause-only c = λ spans i. spelled_is_opened c.read.result c.args.order c.args.bytes.now spans i c.read.ensures

pub returns-clause-refused : goal.returns-clause-refused
returns-clause-refused c = refused_is_faulty c.read.result c.args.order c.args.bytes.now c.read.ensures
