use Rattle.vpf_table.proofs.CountLaws.{counted_so, counted_table}
use Rattle.vpf_table.proofs.table_file.table_counted.Goals as goal

pub invariant_of-result : goal.invariant_of-result
invariant_of-result c =
    let k = counted_so c.args.bytes.now c.args.header.value c.args.start c.args.counted c.requires.begun c.requires.counted in
    record { begun = c.requires.begun; read = k.read; count = k.count; fixed = k.fixed; known = k.known; inside = k.inside }

pub returns-clause-exact : goal.returns-clause-exact
returns-clause-exact c = counted_table c.args.bytes.now c.args.header.value c.args.start c.args.counted c.requires.begun c.requires.counted
