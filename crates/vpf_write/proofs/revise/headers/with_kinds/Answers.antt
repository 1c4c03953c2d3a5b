use Rattle.std.proofs.Common.{◌≡◌, IsTrue, slice_get, ◌∙◌, ap, map}
use Rattle.std.specs.Option.{IsSomeAnd}
use Rattle.vpf_triplet.specs.declared.kinds.Count.TheVariants.{Fixed}
use Rattle.vpf_head.specs.Head.{Head, Col, names_rows}
use Rattle.vpf_write.specs.declared.revise.changes.NewKind.{NewKind}
use Rattle.vpf_write.proofs.revise.Turns.{all_before, all_set, counted_one, if_some, is_within, kind_set, last_of_all, same_counts}
use Rattle.vpf_write.proofs.revise.headers.with_kinds.Goals as goal

pub set_kind-requires-clause-within : goal.set_kind-requires-clause-within
set_kind-requires-clause-within c =
    let columns = c.args.header.now.columns in
    let one = last_of_all (λ (new : NewKind). IsSomeAnd (slice_get columns new.column) (λ column. column.count ≡ Fixed 1)) _ _ _ c.in-Some.ensures.steps c.loop-new.invariant.one in
    is_within _ _ (λ column. column.count ≡ Fixed 1) (counted_one columns c.loop-new.revised.columns c.in-Some.new.now.column c.loop-new.invariant.counts one)

pub set_kind-requires-clause-one : goal.set_kind-requires-clause-one
set_kind-requires-clause-one c =
    let columns = c.args.header.now.columns in
    let one = last_of_all (λ (new : NewKind). IsSomeAnd (slice_get columns new.column) (λ column. column.count ≡ Fixed 1)) _ _ _ c.in-Some.ensures.steps c.loop-new.invariant.one in
    if_some (slice_get c.loop-new.revised.columns c.in-Some.new.now.column) (λ column. column.count ≡ Fixed 1) (counted_one columns c.loop-new.revised.columns c.in-Some.new.now.column c.loop-new.invariant.counts one)

pub loop-new-preserved : goal.loop-new-preserved
loop-new-preserved c =
    let steps = c.in-Some.ensures.steps in
    let new = c.in-Some.new.now in
    record {
      can_next = tt;
      is_finite = tt;
      one = all_before (λ (new : NewKind). IsSomeAnd (slice_get c.args.header.now.columns new.column) (λ column. column.count ≡ Fixed 1)) _ _ _ steps c.loop-new.invariant.one;
      kinds = all_before (λ (new : NewKind). IsTrue (names_rows new.kind)) _ _ _ steps c.loop-new.invariant.kinds;
      counts = ap (λ (h : Head). map (λ (column : Col). column.count) h.columns) c.set_kind.ensures ∙ same_counts new.column new.kind c.loop-new.revised.columns ∙ c.loop-new.invariant.counts;
      done = kind_set _ _ new c.loop-new.revised c.set_kind.new.self _ steps c.set_kind.ensures c.loop-new.invariant.done;
    }

pub returns : goal.returns
returns c = all_set _ c.loop-new.revised _ c.in-None.ensures.steps.0 c.loop-new.invariant.done
