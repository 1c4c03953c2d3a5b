use Rattle.std.proofs.Common.{◌≡◌, ◌++◌, ◌+◌, ◌∷◌, ℕ, List, get_or, drop, arith, append_assoc, ap}
use Rattle.std.proofs.lemmas.List.{drop_more}
use Rattle.std.proofs.lemmas.Grind.{common_steps}
use Rattle.std.specs.Int.{w32}
use Rattle.vpf_base.specs.declared.orders.Order.{Order}
use Rattle.vpf_base.specs.Numbers.{number}
use Rattle.vpf_varindex.specs.RowIndex.{entries_text}
use Rattle.vpf_varindex.proofs.making.index_of.Goals as goal

stepped : (o : Order) (i : ℕ) (ss : List (ℕ × ℕ)) (s : ℕ × ℕ) (a b c d : List ℕ) → drop i ss ≡ s ∷ drop (i + 1) ss
    → b ≡ a ++ number o w32 s.0 → c ≡ b ++ number o w32 s.1 → a ++ entries_text o (drop i ss) ≡ d → c ++ entries_text o (drop (i + 1) ss) ≡ d
unfolding entries_text
stepped o i ss s a b c d e h k was =
    let t : entries_text o (drop i ss) ≡ number o w32 s.0 ++ (number o w32 s.1 ++ entries_text o (drop (i + 1) ss)) = ap (entries_text o) e in
    rw (k, h, append_assoc, append_assoc, ← t) was

pub loop-offset-preserved : goal.loop-offset-preserved
loop-offset-preserved c = stepped c.args.order c.loop-offset.offset-index c.args.spans.now (get_or c.args.spans.now c.loop-offset.offset-index (0, 0)) _ _ _ _ (drop_more c.args.spans.now c.loop-offset.offset-index (0, 0) c.loop-offset-test.true) c.in_ok-put_u32-3.ensures.ok c.in_ok-put_u32-4.ensures.ok c.loop-offset.invariant

pub returns : goal.returns
unfolding entries_text
returns c = grind (arith, common_steps)
