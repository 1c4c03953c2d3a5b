use Rattle.std.proofs.Common.{arith}
use Rattle.vpf_triplet.proofs.Decided.{is_found, is_only, is_refused}
use Rattle.vpf_triplet.proofs.triplets.Triplet.read.Goals as goal

pub returns-clause-found : goal.returns-clause-found
returns-clause-found c = is_found c.args.order c.args.bytes.now c.args.at c.read_at.result (λ i. omega (arith, c.type_inv.bytes i)) c.requires c.read_at.ensures

pub returns-clause-only : goal.returns-clause-only
returns-clause-only c = λ t text rest b. is_only c.args.order c.args.bytes.now c.args.at c.read_at.result t text rest c.read_at.ensures b

pub returns-clause-refused : goal.returns-clause-refused
returns-clause-refused c = is_refused c.args.order c.args.bytes.now c.args.at c.read_at.result (λ i. omega (arith, c.type_inv.bytes i)) c.read_at.ensures
