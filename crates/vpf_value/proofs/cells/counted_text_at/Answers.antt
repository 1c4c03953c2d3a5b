use Rattle.vpf_value.specs.Reading.{text_from}
use Rattle.vpf_value.proofs.Readers.{counted_reads}
use Rattle.vpf_value.proofs.cells.counted_text_at.Goals as goal

pub returns-clause-exact : goal.returns-clause-exact
returns-clause-exact c =
    let a = c.args in
    let rest = c.in_ok-rest.ensures in
    counted_reads a.order text_from a.bytes.now c.in_ok-rest.rest.now a.at c.u32_from-len.result c.fixed_text_at.result c.faulting_at.result rest.0 rest.1 c.u32_from-len.ensures c.fixed_text_at.ensures.exact c.faulting_at.ensures
