use Rattle.std.proofs.Common.{ℕ, List, String, Global, ◌∙◌, sym, string_bytes, rules}
use Rattle.vpf_library_files.proofs.tileref.BoundLemmas.{short_passed, long_stops}
use Rattle.vpf_library_files.proofs.tileref.bounds.check_lengths.Goals as goal

pub loop-path-preserved : goal.loop-path-preserved
loop-path-preserved c =
    let text : String Global → List ℕ = λ (path : String Global). string_bytes path in
    short_passed text c.args.paths.now c.loop-path.path-index c.path-item.result c.loop-path-test.true c.path-item.is (search rules)
    ∙ c.loop-path.invariant

pub returns-then-len-gt-LONGEST_NAME : goal.returns-then-len-gt-LONGEST_NAME
returns-then-len-gt-LONGEST_NAME c =
    let text : String Global → List ℕ = λ (path : String Global). string_bytes path in
    rw c.as_str-len.ensures.value
    (sym c.loop-path.invariant
    ∙ long_stops text c.args.paths.now c.loop-path.path-index c.path-item.result c.loop-path-test.true c.path-item.is
    (rw c.as_str-len.ensures.value at c.if-len-gt-LONGEST_NAME.true))
