use Rattle.std.proofs.Common.{ℕ, subst}
use Rattle.vpf_value.specs.Values.{view}
use Rattle.vpf_theme.specs.Entries.{AreRows}
use Rattle.vpf_select.proofs.IndexLemmas.{own_value, own_rows}
use Rattle.vpf_select.proofs.selecting.select.Goals as goal

pub find-requires : goal.find-requires
find-requires g c = own_value c.in-Some.theme.now c.args.table.now c.args.test.now.column (view c.args.test.now.value) c.requires.column (rw c.in-Some.is at c.requires.own) c.requires.fits

pub tested-requires-clause-rows : goal.tested-requires-clause-rows
tested-requires-clause-rows g c = subst (λ (n : ℕ). AreRows n c.in-Some-find.hits.left) (own_rows c.in-Some.theme.now c.args.table.now c.args.test.now.column c.requires.column (rw c.in-Some.is at c.requires.own)) c.in-Some-find.ensures.rows
