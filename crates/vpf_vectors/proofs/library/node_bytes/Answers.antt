use Rattle.std.proofs.Common.{◌≡◌, ◌+◌, ◌≤◌, ℕ, List, length, subst, sym}
use Rattle.std.specs.Prelude.{IfOk}
use Rattle.std.specs.List.{All}
use Rattle.vpf_head.specs.Head.{Head}
use Rattle.vpf_table.specs.Canonical.{canonical_table}
use Rattle.vpf_vectors.specs.Heads.{node_head}
use Rattle.vpf_vectors.specs.Tables.{pair_table}
use Rattle.vpf_vectors.specs.Inner.Writing.{IsGridNumber, HasPairs}
use Rattle.vpf_vectors.proofs.HeadLemmas.{nodes_ok, nodes_read}
use Rattle.vpf_vectors.specs.Inner.HeadLaws.{nodes_have_pairs}
use Rattle.vpf_vectors.proofs.SmallLemmas.{nodes_are_small}
use Rattle.vpf_vectors.specs.Inner.SmallLaws.{nodes_are_few}
use Rattle.vpf_vectors.proofs.library.node_bytes.Goals as goal

pub header_in-requires : goal.header_in-requires
header_in-requires c = nodes_ok

pub pair_table-requires-clause-head : goal.pair_table-requires-clause-head
pair_table-requires-clause-head c = subst HasPairs (sym (c.in_ok-header.ensures node_head 63 nodes_read)) nodes_have_pairs

pub pair_table-requires-clause-few : goal.pair_table-requires-clause-few
pair_table-requires-clause-few c = subst (λ (xs : List ℕ). 1 + length xs ≤ 100000) (sym c.requires.rows) (nodes_are_few c.args.n c.requires.most)

pub pair_table-requires-clause-small : goal.pair_table-requires-clause-small
pair_table-requires-clause-small c =
    subst (All IsGridNumber) (sym c.requires.rows) (nodes_are_small c.least_darts.ensures.nodes c.args.n c.requires.least c.requires.most)

pub returns : goal.returns
returns c =
    let e = c.in_ok-header.ensures node_head 63 nodes_read in
    let made = subst (λ (h : Head). IfOk c.pair_table.result (λ bytes. bytes ≡ canonical_table (pair_table h 1 c.args.rows.now))) e c.pair_table.ensures in
    subst (λ (xs : List ℕ). IfOk c.pair_table.result (λ bytes. bytes ≡ canonical_table (pair_table node_head 1 xs))) c.requires.rows made
