use Rattle.std.proofs.Common.{◌≡◌, ◌+◌, ◌≤◌, ℕ, List, length, subst, sym}
use Rattle.std.specs.Prelude.{IfOk}
use Rattle.std.specs.List.{All}
use Rattle.vpf_head.specs.Head.{Head}
use Rattle.vpf_table.specs.Canonical.{canonical_table}
use Rattle.vpf_vectors.specs.Heads.{plan_head}
use Rattle.vpf_vectors.specs.Tables.{pair_table}
use Rattle.vpf_vectors.specs.Inner.Writing.{IsGridNumber, HasPairs}
use Rattle.vpf_vectors.specs.Inner.HeadLaws.{plan_has_pairs}
use Rattle.vpf_vectors.proofs.SmallLemmas.{homes_are_small}
use Rattle.vpf_vectors.specs.Inner.SmallLaws.{homes_are_few}
use Rattle.vpf_vectors.proofs.library.plan_bytes.Goals as goal

pub pair_table-requires-clause-head : goal.pair_table-requires-clause-head
pair_table-requires-clause-head c = subst HasPairs (sym (c.in_ok-header.ensures)) plan_has_pairs

pub pair_table-requires-clause-few : goal.pair_table-requires-clause-few
pair_table-requires-clause-few c = subst (λ (xs : List ℕ). 2 + length xs ≤ 100000) (sym c.requires.rows) (homes_are_few c.args.n c.requires.most)

pub pair_table-requires-clause-small : goal.pair_table-requires-clause-small
pair_table-requires-clause-small c =
    subst (All IsGridNumber) (sym c.requires.rows) (homes_are_small c.tiles_of_the_grid.ensures.faces c.args.n c.requires.least c.requires.most c.requires.even)

pub returns : goal.returns
returns c =
    let e = c.in_ok-header.ensures in
    let made = subst (λ (h : Head). IfOk c.pair_table.result (λ bytes. bytes ≡ canonical_table (pair_table h 2 c.args.rows.now))) e c.pair_table.ensures in
    subst (λ (xs : List ℕ). IfOk c.pair_table.result (λ bytes. bytes ≡ canonical_table (pair_table plan_head 2 xs))) c.requires.rows made
