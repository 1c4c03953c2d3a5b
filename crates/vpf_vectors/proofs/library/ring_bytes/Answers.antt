use Rattle.std.proofs.Common.{◌≡◌, ◌≤◌, List, length, subst, sym}
use Rattle.std.specs.Prelude.{IfOk}
use Rattle.std.specs.List.{All}
use Rattle.vpf_table.specs.Canonical.{canonical_table}
use Rattle.vpf_vectors.specs.declared.cells.rows.RingRow.{RingRow}
use Rattle.vpf_vectors.specs.Tables.{ring_table}
use Rattle.vpf_vectors.specs.Inner.Writing.{IsSmallRingRow}
use Rattle.vpf_vectors.proofs.SmallLemmas.{rings_are_small}
use Rattle.vpf_vectors.specs.Inner.SmallLaws.{rings_are_few}
use Rattle.vpf_vectors.proofs.library.ring_bytes.Goals as goal

pub ring_table-requires-clause-few : goal.ring_table-requires-clause-few
ring_table-requires-clause-few c = subst (λ (xs : List RingRow). length xs ≤ 100000) (sym c.requires.rows) (rings_are_few c.args.n c.requires.most)

pub ring_table-requires-clause-small : goal.ring_table-requires-clause-small
ring_table-requires-clause-small c = subst (All IsSmallRingRow) (sym c.requires.rows) (rings_are_small c.args.n c.requires.most)

pub returns : goal.returns
returns c = subst (λ (xs : List RingRow). IfOk c.ring_table.result (λ bytes. bytes ≡ canonical_table (ring_table xs))) c.requires.rows c.ring_table.ensures
