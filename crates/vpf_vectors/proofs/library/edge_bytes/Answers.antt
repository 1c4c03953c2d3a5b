use Rattle.std.proofs.Common.{◌≡◌, ◌≤◌, List, length, subst, sym}
use Rattle.std.specs.Prelude.{IfOk}
use Rattle.std.specs.List.{All}
use Rattle.vpf_table.specs.Canonical.{canonical_table}
use Rattle.vpf_vectors.specs.declared.cells.rows.EdgeRow.{EdgeRow}
use Rattle.vpf_vectors.specs.Tables.{edge_table}
use Rattle.vpf_vectors.specs.Inner.Writing.{IsSmallEdge}
use Rattle.vpf_vectors.proofs.SmallLemmas.{edges_are_small}
use Rattle.vpf_vectors.specs.Inner.SmallLaws.{edges_are_few}
use Rattle.vpf_vectors.proofs.library.edge_bytes.Goals as goal

pub edge_table-requires-clause-few : goal.edge_table-requires-clause-few
edge_table-requires-clause-few c = subst (λ (xs : List EdgeRow). length xs ≤ 100000) (sym c.requires.rows) (edges_are_few c.args.n c.requires.most)

pub edge_table-requires-clause-small : goal.edge_table-requires-clause-small
edge_table-requires-clause-small c =
    subst (All IsSmallEdge) (sym c.requires.rows)
    (edges_are_small c.darts_are_in_range.ensures c.nexts_are_a_map.ensures.map c.args.n c.requires.least c.requires.most)

pub returns : goal.returns
returns c = subst (λ (xs : List EdgeRow). IfOk c.edge_table.result (λ bytes. bytes ≡ canonical_table (edge_table xs))) c.requires.rows c.edge_table.ensures
