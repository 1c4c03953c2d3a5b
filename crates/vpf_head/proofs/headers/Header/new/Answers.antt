use Rattle.std.proofs.Common.{subst, ◌∙◌}
use Rattle.std.proofs.lemmas.Result.{err_from_is_err_and}
use Rattle.std.specs.Option.{option_copied}
use Rattle.vpf_triplet.specs.Places.{Fails}
use Rattle.vpf_head.specs.Inner.Views.{head_of_parts}
use Rattle.vpf_head.proofs.Makings.{made, spelled_made}
use Rattle.vpf_head.proofs.headers.Header.new.Goals as goal

pub returns-in_err-check_parts-clause-only : goal.returns-in_err-check_parts-clause-only
returns-in_err-check_parts-clause-only c =
    let given = head_of_parts c.args.order c.args.description.now (option_copied c.args.narrative) c.args.columns.items in
    let p = err_from_is_err_and c.from_residual.result c.from_residual.ensures.1 in
    let fails = rw c.deref.ensures.value at c.in_err-check_parts.ensures in
    λ s. rw (p.1, p.2) (subst (Fails c.in_err-check_parts.field-0.0) (spelled_made given s) fails)

pub columns_of-requires : goal.columns_of-requires
columns_of-requires c =
    let given = head_of_parts c.args.order c.args.description.now (option_copied c.args.narrative) c.args.columns.items in
    let is = made given given (rw c.deref.ensures.value at c.in_ok-check_parts.ensures) in
    rw c.deref-2.ensures.value is.sound.distinct

pub invariant_of-result : goal.invariant_of-result
invariant_of-result c =
    let given = head_of_parts c.args.order c.args.description.now (option_copied c.args.narrative) c.args.columns.items in
    let is = made given given (rw c.deref.ensures.value at c.in_ok-check_parts.ensures) in
    let same = c.in_ok-columns.ensures.columns ∙ c.deref-2.ensures.value in
    record { named = c.in_ok-columns.ensures.named; sound = rw same is.sound }

pub returns-clause-spelled : goal.returns-clause-spelled
returns-clause-spelled c =
    let given = head_of_parts c.args.order c.args.description.now (option_copied c.args.narrative) c.args.columns.items in
    let is = made given given (rw c.deref.ensures.value at c.in_ok-check_parts.ensures) in
    let same = c.in_ok-columns.ensures.columns ∙ c.deref-2.ensures.value in
    rw same is.spelled
