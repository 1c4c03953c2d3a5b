use Rattle.vpf_tiler.proofs.ReadableLemmas.{all_few, all_writable}
use Rattle.vpf_tiler.proofs.sources.tables_are_read.Goals as goal

pub returns-clause-writable : goal.returns-clause-writable
returns-clause-writable c =
    all_writable c.args.tile.now.tables c.table_reads.ensures c.table_reads-2.ensures c.table_reads-3.ensures c.table_reads-4.ensures
    c.table_reads-5.ensures

pub returns-clause-few : goal.returns-clause-few
returns-clause-few c =
    all_few c.args.tile.now.tables c.table_reads.ensures c.table_reads-2.ensures c.table_reads-3.ensures c.table_reads-4.ensures
    c.table_reads-5.ensures
