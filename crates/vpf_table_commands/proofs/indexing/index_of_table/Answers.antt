use Rattle.vpf_table_commands.specs.Index.{built_answer}
use Rattle.vpf_table_commands.proofs.indexing.index_of_table.Goals as goal

pub returns-in-Some : goal.returns-in-Some
returns-in-Some c =
    let at = rw c.as_str.ensures at (rw c.header.ensures at c.in-Some.ensures.at) in
    rw (at.over (built_answer c.args.request.now c.args.table.now)) (c.index_of_column.ensures at.column at.there)
