use Rattle.std.proofs.Common.{arith}
use Rattle.vpf_head.proofs.Decided.{is_found, is_only, is_refused}
use Rattle.vpf_head.proofs.headers.Header.read.Goals as goal

pub returns-clause-found : goal.returns-clause-found
returns-clause-found c = is_found c.args.bytes.now c.header_at.result (λ i. omega (arith, c.type_inv.bytes i)) c.header_at.ensures.exact

pub returns-clause-only : goal.returns-clause-only
returns-clause-only c = λ h text rest b. is_only c.args.bytes.now c.header_at.result h text rest c.header_at.ensures.exact b

pub returns-clause-refused : goal.returns-clause-refused
returns-clause-refused c = is_refused c.args.bytes.now c.header_at.result c.header_at.ensures.exact
