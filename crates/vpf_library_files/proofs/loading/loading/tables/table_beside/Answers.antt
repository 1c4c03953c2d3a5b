use Rattle.vpf_library_files.proofs.loading.OneTable.{found_comes}
use Rattle.vpf_library_files.proofs.loading.loading.tables.table_beside.Goals as goal

pub returns-clause-reads : goal.returns-clause-reads
returns-clause-reads g c =
    found_comes c.spelled_is_opened.ensures c.opened_is_read.ensures (g.T.Tree.files c.args.tree.now) c.args.name.now c.args.bytes.now c.args.loaded.now c.index_beside.new.loaded
    c.index_beside.result (λ found. found.0.grid) (λ found. found.1) c.index_beside.ensures.told c.index_beside.ensures.are
