use Rattle.std.proofs.Common.{[], false}
use Rattle.vpf_write.specs.Inner.Drafts.{progress}
use Rattle.vpf_write.proofs.Tallied.{nothing_held}
use Rattle.vpf_write.proofs.table_writer.TableWriter.new.Goals as goal

pub invariant_of-result : goal.invariant_of-result
invariant_of-result c = record {
  put = [];
  holds = nothing_held c.args.header.now (progress c.in_ok-draft.draft) false c.in_ok-draft.ensures;
  text = c.text_len.ensures;
  varies = c.varies.ensures;
}

pub returns-clause-holds : goal.returns-clause-holds
returns-clause-holds c = nothing_held c.args.header.now (progress c.in_ok-draft.draft) false c.in_ok-draft.ensures
