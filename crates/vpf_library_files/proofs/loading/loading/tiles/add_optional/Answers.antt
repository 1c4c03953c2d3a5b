use Rattle.std.proofs.Common.{◌≡◌, ◌∙◌, ◌==◌, not, length, ap}
use Rattle.vpf_library_files.proofs.loading.OneTable.{option_adds}
use Rattle.vpf_library_files.proofs.loading.loading.tiles.add_optional.Goals as goal

pub returns-clause-reads : goal.returns-clause-reads
returns-clause-reads g c =
    let tells : not c.is_empty-there.result ≡ not (length c.in_ok-added.added == 0) = ap not c.is_empty-there.ensures in
    option_adds c.spelled_is_opened.ensures c.opened_is_read.ensures (g.T.Tree.files c.args.tree.now) c.as_str.result.now _ c.args.loaded.now c.optional_table.new.loaded
    c.args.tables.now c.append.new.self c.in_ok-added.added (not c.is_empty-there.result) (c.as_str.ensures.value ∙ c.in_ok-name.ensures) tells
    c.in_ok-added.ensures.told c.in_ok-added.ensures.are c.in_ok-append.ensures
