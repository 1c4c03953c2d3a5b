use Rattle.std.proofs.Common.{List, [], ◌∷◌, ◌++◌, subst}
use Rattle.std.specs.Prelude.{OnOk}
use Rattle.vpf_table.specs.Grid.{Row}
use Rattle.vpf_write.specs.Inner.Tallies.{Holds}
use Rattle.vpf_vectors.proofs.CellLemmas.{edge_is, edge_cells_fit}
use Rattle.vpf_vectors.proofs.tables.put_edge.Goals as goal

pub put_row-requires : goal.put_row-requires
put_row-requires c =
    edge_cells_fit c.args.writer.now.head c.args.id c.args.row _ c.requires.head c.requires.id c.requires.small
    (edge_is c.args.id c.args.row _ _ _ _ _ _ _ _ c.number.ensures c.number-2.ensures c.number-3.ensures c.number-4.ensures
    c.number-5.ensures c.number-6.ensures c.number-7.ensures c.mark.ensures)

pub returns-clause-put : goal.returns-clause-put
returns-clause-put c =
    subst (λ (row : Row). OnOk c.put_row.result ((rows : List Row) → Holds c.args.writer.now rows → Holds c.put_row.new.self (rows ++ row ∷ [])))
    (edge_is c.args.id c.args.row _ _ _ _ _ _ _ _ c.number.ensures c.number-2.ensures c.number-3.ensures c.number-4.ensures
    c.number-5.ensures c.number-6.ensures c.number-7.ensures c.mark.ensures)
    c.put_row.ensures.ok
