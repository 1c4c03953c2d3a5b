use Rattle.std.specs.Prelude.{All}
use Rattle.std.proofs.Common.{◌≡◌, ℕ, ◌<◌, ◌/◌, length, subst, sym, rules}
use Rattle.vpf_value.specs.declared.coords.WordWidth.{WordWidth}
use Rattle.vpf_value.specs.Words.{word_bytes, word_limit}
use Rattle.vpf_value.specs.Inner.Coordinates.{words, words_width}
use Rattle.vpf_value.specs.Inner.Fitting.{HoldsTuples}
use Rattle.vpf_value.proofs.WordLists.{words_of_below}
use Rattle.vpf_value.proofs.fitting.are_tuples.Goals as goal

pub returns-then-eq : goal.returns-then-eq
returns-then-eq c =
    let a = c.args in
    let coords = a.coords.now in
    let small = words_of_below coords.order coords.width (length coords.bytes.now / word_bytes coords.width) coords.bytes.now coords.are_bytes in
    let same : words_width coords ≡ a.width = search rules in
    let below = subst (λ (w : WordWidth). All (λ (word : ℕ). word < word_limit w) (words coords)) same small in
    let holds = λ (n : ℕ). HoldsTuples a.tuple a.count n in
    (λ t. (same, subst holds c.len.ensures (c.holds_tuples.ensures.0 t), below), λ f. c.holds_tuples.ensures.1 (subst holds (sym c.len.ensures) f.1))
