use Rattle.std.proofs.Common.{◌≡◌, ◌∙◌, ◌==◌, ℕ, Bool, true, false, get_or, sym, arith}
use Rattle.std.specs.List.{list_any}
use Rattle.std.proofs.lemmas.Grind.{common_steps}
use Rattle.vpf_joins.proofs.RisingLemmas.{rising_hit, rising_miss, rising_rows}
use Rattle.vpf_joins.proofs.marking.once_rising.Goals as goal
use Rattle.vpf_joins.proofs.marking.once_rising.Goals.{then-index+in_ok-push, else-index}

pub loop-k-preserved : goal.loop-k-preserved
loop-k-preserved c =
    let p : ℕ → Bool = λ k. list_any (λ row. row == k) c.args.rows.now in
    let k = c.loop-k.k in
    let marks = c.in_ok-marks.marks.items in
    let told = c.in_ok-marks.ensures.tell k c.loop-k-test.true in
    elim c.if-index.branch [
      | then-index+in_ok-push w ↦
          (let at : get_or marks k false ≡ true = grind (arith, common_steps) in
          rw w.numbers-is (rising_hit p k c.args.n c.loop-k.numbers.items w.push.new.self.items _ c.loop-k-test.true (sym told ∙ at) w.in_ok-push.ensures.items c.loop-k.invariant))
      | else-index w ↦
          (let at : get_or marks k false ≡ false = grind (arith, common_steps) in
          rw w.numbers-is (rising_miss p k c.args.n c.loop-k.numbers.items _ c.loop-k-test.true (sym told ∙ at) c.loop-k.invariant))
    ]

pub returns-clause-rows : goal.returns-clause-rows
returns-clause-rows c =
    rising_rows (λ k. list_any (λ row. row == k) c.args.rows.now) c.loop-k.k c.args.n c.loop-k.numbers.items c.loop-k-test.false c.loop-k.invariant
