use Rattle.std.proofs.Common.{◌∙◌, refl, arith}
use Rattle.vpf_write.specs.Inner.Drafts.{begun, progress}
use Rattle.vpf_write.specs.Inner.Tallies.{grid_with}
use Rattle.vpf_write.specs.Inner.TableWriters.{tally_of}
use Rattle.vpf_write.proofs.Tallied.{told_of}
use Rattle.vpf_write.proofs.WholeTables.{written_by}
use Rattle.vpf_write.specs.Inner.WholeLaws.{within_limits}
use Rattle.vpf_write.proofs.table_writer.TableWriter.finish.Goals as goal

pub returns-in-Some-clause-written : goal.returns-in-Some-clause-written
returns-in-Some-clause-written c =
    let i = c.self.inside in
    let v = c.self.invariant in
    rw (← c.self.view_is) (λ rows h. told_of (tally_of i) rows i.text i.rows i.len i.varies c.limit_of.result v.text v.varies h.count h.size c.limit_of.ensures ∙ c.in-Some.is)

pub finish-requires-clause-short : goal.finish-requires-clause-short
finish-requires-clause-short c =
    let i = c.self.inside in
    let v = c.self.invariant in
    let none = told_of (tally_of i) v.put i.text i.rows i.len i.varies c.limit_of.result v.text v.varies v.holds.count v.holds.size c.limit_of.ensures ∙ c.in_default.is in
    (within_limits (grid_with (tally_of i) v.put) none).text_fits

pub finish-requires-clause-few : goal.finish-requires-clause-few
finish-requires-clause-few c =
    let i = c.self.inside in
    let v = c.self.invariant in
    let none = told_of (tally_of i) v.put i.text i.rows i.len i.varies c.limit_of.result v.text v.varies v.holds.count v.holds.size c.limit_of.ensures ∙ c.in_default.is in
    let made = written_by (grid_with (tally_of i) v.put) (begun i.header.now) (progress i.draft) refl (v.holds.kept c.if-self.false none) in
    omega (arith, made.few, (within_limits (grid_with (tally_of i) v.put) none).rows_fit)

pub returns-clause-written : goal.returns-clause-written
returns-clause-written c =
    let i = c.self.inside in
    let v = c.self.invariant in
    rw (← c.self.view_is) (λ rows h.
    let none = told_of (tally_of i) rows i.text i.rows i.len i.varies c.limit_of.result v.text v.varies h.count h.size c.limit_of.ensures ∙ c.in_default.is in
    let made = written_by (grid_with (tally_of i) rows) (begun i.header.now) (progress i.draft) refl (h.kept c.if-self.false none) in
    (none, c.in_ok-finish.ensures.table ∙ made.table, c.in_ok-finish.ensures.index ∙ made.index))
