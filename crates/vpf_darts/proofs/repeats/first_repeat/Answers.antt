use Rattle.std.proofs.Common.{◌≡◌, ◌+◌, ◌<◌, ℕ, Bool, List, true, false, cond, length, map, take, get_or, ap, sym, ◌∙◌, arith, rules}
use Rattle.std.specs.List.{All}
use Rattle.vpf_darts.specs.declared.darts.Dart.{Dart}
use Rattle.std.proofs.lemmas.List.{get_or-map, length-map}
use Rattle.std.proofs.Math.Seq.{take-length}
use Rattle.vpf_darts.specs.Cycles.{count_of}
use Rattle.vpf_darts.specs.Darts.{dart_code}
use Rattle.vpf_darts.specs.MapLists.{IsInRange}
use Rattle.vpf_darts.proofs.RepeatLemmas.{StandOnce, counts_more}
use Rattle.vpf_darts.proofs.MarkLemmas.{cond-le, mark_read}
use Rattle.vpf_darts.proofs.NextLemmas.{no_dart, in_range-bounds, first_repeat_at, lists_of-is_map}
use Rattle.vpf_darts.proofs.repeats.first_repeat.Goals as goal

inside : (next : List Dart) (marks : List Bool) (k number : ℕ) → All (IsInRange (length next)) next → k < length next → number ≡ dart_code (get_or next k no_dart) → length marks ≡ length next + 2 → number < length marks
inside next marks k number in_range h is len = let b = in_range-bounds (length next) (get_or next k no_dart) (in_range k no_dart h) in rw (is, len) b.1

pub index-requires : goal.index-requires
index-requires c =
    let h : c.number-number.result < length c.loop-place.taken.items = inside c.args.next.now c.loop-place.taken.items c.loop-place.place _ c.requires.in_range c.loop-place-test.true c.number-number.ensures c.loop-place.invariant.one_each in
    search rules

pub index_mut-requires : goal.index_mut-requires
index_mut-requires c =
    let h : c.number-number.result < length c.loop-place.taken.items = inside c.args.next.now c.loop-place.taken.items c.loop-place.place _ c.requires.in_range c.loop-place-test.true c.number-number.ensures c.loop-place.invariant.one_each in
    search rules

pub returns-then-index : goal.returns-then-index
returns-then-index c =
    let e : c.number-number.result ≡ dart_code (get_or c.args.next.now c.loop-place.place no_dart) = c.number-number.ensures in
    let h : c.number-number.result < length c.loop-place.taken.items = inside c.args.next.now c.loop-place.taken.items c.loop-place.place _ c.requires.in_range c.loop-place-test.true c.number-number.ensures c.loop-place.invariant.one_each in
    let marked : get_or c.loop-place.taken.items c.number-number.result false ≡ true = mark_read c.loop-place.taken.items c.number-number.result true c.index.result.now false h c.index.ensures c.if-index.true in
    let counted : count_of c.number-number.result (take c.loop-place.place (map dart_code c.args.next.now)) ≡ 1 = c.loop-place.invariant.counts c.number-number.result ∙ ap (λ b. cond b 1 0) marked in
    let some : 0 < count_of (dart_code (get_or c.args.next.now c.loop-place.place no_dart)) (take c.loop-place.place (map dart_code c.args.next.now)) = rw (← e) (omega arith) in
    let once : StandOnce (take c.loop-place.place (map dart_code c.args.next.now)) = λ x. rw (c.loop-place.invariant.counts x) (cond-le _) in
    rw c.of_number.ensures (first_repeat_at c.args.next.now c.loop-place.place c.loop-place-test.true some once)

pub loop-place-preserved : goal.loop-place-preserved
loop-place-preserved c =
    let e : c.number-number.result ≡ dart_code (get_or c.args.next.now c.loop-place.place no_dart) = c.number-number.ensures in
    let at : get_or (map dart_code c.args.next.now) c.loop-place.place 0 ≡ c.number-number.result = get_or-map dart_code c.args.next.now c.loop-place.place no_dart 0 c.loop-place-test.true ∙ sym e in
    let len : length (map dart_code c.args.next.now) ≡ length c.args.next.now = length-map c.args.next.now dart_code in
    let h : c.number-number.result < length c.loop-place.taken.items = inside c.args.next.now c.loop-place.taken.items c.loop-place.place _ c.requires.in_range c.loop-place-test.true c.number-number.ensures c.loop-place.invariant.one_each in
    let unmarked : get_or c.loop-place.taken.items c.number-number.result false ≡ false = mark_read c.loop-place.taken.items c.number-number.result false c.index.result.now false h c.index.ensures c.if-index.false in
    record {
      one_each = search rules;
      counts = counts_more (map dart_code c.args.next.now) c.loop-place.taken.items c.loop-place.place c.number-number.result (omega arith) h at unmarked c.loop-place.invariant.counts;
    }

pub returns : goal.returns
returns c =
    let len : length (map dart_code c.args.next.now) ≡ length c.args.next.now = length-map c.args.next.now dart_code in
    let all : c.loop-place.place ≡ length (map dart_code c.args.next.now) = omega arith in
    let whole : take c.loop-place.place (map dart_code c.args.next.now) ≡ map dart_code c.args.next.now = ap (λ k. take k (map dart_code c.args.next.now)) all ∙ take-length (map dart_code c.args.next.now) in
    let once : StandOnce (map dart_code c.args.next.now) = λ x. rw (← whole, c.loop-place.invariant.counts x) (cond-le _) in
    lists_of-is_map c.args.next.now c.requires.even c.requires.in_range once
