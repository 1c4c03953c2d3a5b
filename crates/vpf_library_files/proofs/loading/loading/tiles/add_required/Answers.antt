use Rattle.std.proofs.Common.{◌∙◌}
use Rattle.vpf_library_files.proofs.loading.OneTable.{table_adds}
use Rattle.vpf_library_files.proofs.loading.loading.tiles.add_required.Goals as goal

pub returns-clause-reads : goal.returns-clause-reads
returns-clause-reads g c =
    table_adds c.spelled_is_opened.ensures c.opened_is_read.ensures (g.T.Tree.files c.args.tree.now) c.as_str.result.now _ c.args.loaded.now c.required_table.new.loaded
    c.args.tables.now c.append.new.self c.in_ok-added.added (c.as_str.ensures.value ∙ c.in_ok-name.ensures) c.in_ok-added.ensures.told c.in_ok-added.ensures.are
    c.in_ok-append.ensures
