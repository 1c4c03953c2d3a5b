use Rattle.std.proofs.Common.{arith}
use Rattle.vpf_value.proofs.Deciding.{is_found, is_only, is_refused}
use Rattle.vpf_value.proofs.cells.cell_at.Goals as goal

pub returns-clause-found : goal.returns-clause-found
returns-clause-found c =
    let a = c.args in
    is_found a.order a.kind a.count a.bytes.now a.at c.read_at.result (λ i. omega (arith, c.type_inv.bytes i)) c.read_at.ensures.exact

pub returns-clause-only : goal.returns-clause-only
returns-clause-only c =
    let a = c.args in
    λ v text rest b. is_only a.order a.kind a.count a.bytes.now a.at c.read_at.result v text rest c.read_at.ensures.exact b

pub returns-clause-refused : goal.returns-clause-refused
returns-clause-refused c =
    let a = c.args in
    is_refused a.order a.kind a.count a.bytes.now a.at c.read_at.result (λ i. omega (arith, c.type_inv.bytes i)) c.read_at.ensures.exact
