use Rattle.std.proofs.Common.{subst}
use Rattle.vpf_prims.specs.Coverages.{CoverageTables}
use Rattle.vpf_prims.specs.Libraries.{library_of}
use Rattle.vpf_wing.specs.Links.{links_of}
use Rattle.vpf_trace.specs.Inner.Gathering.{AreKeptAmong}
use Rattle.vpf_trace.proofs.GatherLemmas.{gathered}
use Rattle.vpf_trace.proofs.LineLemmas.{library_has_lines}
use Rattle.vpf_trace.proofs.tracing.trace.Goals as goal

pub invariant_of-list_kept : goal.invariant_of-list_kept
invariant_of-list_kept c = record {
  traceable = c.walks_pass_lines.ensures;
  lines = library_has_lines c.homes_exist.ensures (library_of c.args.checked.now) c.walks_pass_lines.ensures;
}

pub list_kept-requires : goal.list_kept-requires
list_kept-requires c =
    rw c.deref.ensures.value (gathered c.homes_exist.ensures c.removal_leaves_a_map.ensures.map (library_of c.args.checked.now) c.walks_pass_lines.ensures c.in_ok-darts.darts.items
    (subst (λ (v : CoverageTables). AreKeptAmong (library_of v) (links_of (library_of v)).darts c.in_ok-darts.darts.items) c.coverage.ensures c.in_ok-darts.ensures))
