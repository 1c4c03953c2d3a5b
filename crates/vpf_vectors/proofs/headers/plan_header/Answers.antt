use Rattle.vpf_vectors.specs.Heads.{plan_head}
use Rattle.vpf_vectors.proofs.HeadLemmas.{plan_ok, plan_read}
use Rattle.vpf_vectors.proofs.headers.plan_header.Goals as goal

pub header_in-requires : goal.header_in-requires
header_in-requires c = plan_ok

pub returns : goal.returns
returns c = c.header_in.ensures plan_head 61 plan_read
