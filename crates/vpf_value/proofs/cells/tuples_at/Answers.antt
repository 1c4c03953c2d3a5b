use Rattle.std.proofs.Common.{arith}
use Rattle.vpf_value.proofs.Readers.{tuples_read}
use Rattle.vpf_value.proofs.cells.tuples_at.Goals as goal

pub returns-clause-exact : goal.returns-clause-exact
returns-clause-exact c =
    let a = c.args in
    let rest = c.in_ok-rest.ensures in
    let coords = c.new-coords.ensures in
    (omega arith, tuples_read a.order a.width a.tuple a.count a.at c.tuples_bytes-len.result a.bytes.now c.in_ok-rest.rest.now _ _ c.tuples_bytes-len.ensures rest.0 rest.1 coords.wide coords.listed)
