use Rattle.std.proofs.Common.{◌≡◌, ◌∙◌}
use Rattle.vpf_featured.proofs.FindingLemmas.{if_ok_more, tells_behind, topology_same}
use Rattle.vpf_featured.proofs.checking.open_agreeing.Goals as goal

pub returns-in-Ok-clause-first : goal.returns-in-Ok-clause-first
returns-in-Ok-clause-first c read are =
    tells_behind _ c.with_topology.result _ _ (c.in-Ok.ensures.first read are)
    (topology_same _ c.with_topology.result _ read.coverage.files _ read.coverage.coverage (c.files.ensures ∙ are.listed) (c.in-Ok.ensures.coverage read are)
    c.with_topology.ensures.first)

pub returns-in-Ok-clause-coverage : goal.returns-in-Ok-clause-coverage
returns-in-Ok-clause-coverage c read are =
    if_ok_more _ (λ f. f ≡ c.in-Ok.featured) (λ f. f.coverage ≡ read.coverage.coverage) c.with_topology.result (λ f same. rw same (c.in-Ok.ensures.coverage read are))
    c.with_topology.ensures.same

pub returns-in-Ok-clause-schema : goal.returns-in-Ok-clause-schema
returns-in-Ok-clause-schema c read are =
    if_ok_more _ (λ f. f ≡ c.in-Ok.featured) (λ f. f.schema ≡ read.schema) c.with_topology.result (λ f same. rw same (c.in-Ok.ensures.schema read are))
    c.with_topology.ensures.same
