use Rattle.std.proofs.Common.{◌∙◌, ◌∷◌}
use Rattle.std.proofs.lemmas.Result.{err_from_is_err_and}
use Rattle.vpf_library_files.specs.Loading.Loading.{loaded_file}
use Rattle.vpf_library_files.specs.Loading.Loads.{maybe}
use Rattle.vpf_library_files.proofs.loading.TilerefLemmas.{FoundTileref, found_stops, rows_go_on, rows_stop}
use Rattle.vpf_library_files.proofs.loading.loading.tileref.tileref_in.Goals as goal

pub returns-in_err-table-clause-reads : goal.returns-in_err-table-clause-reads
returns-in_err-table-clause-reads g c =
    let p = err_from_is_err_and c.from_residual.result c.from_residual.ensures.1 in
    rw (p.1, p.2) (λ held e. found_stops held c.args.name.now c.args.bytes.items c.args.loaded.now c.table_beside.new.loaded c.in_err-table.field-0.0
    (rw c.deref.ensures.value at (c.in_err-table.ensures.reads held e)))

pub returns-in_err-paths-clause-reads : goal.returns-in_err-paths-clause-reads
returns-in_err-paths-clause-reads g c =
    let told = g.T.Tree.files c.args.tree.now in
    let name = c.args.name.now in
    let bytes = c.args.bytes.items in
    let grid = c.in_ok-table.table.grid in
    let files = loaded_file name bytes ∷ maybe c.in_ok-table.index in
    let found : FoundTileref told name bytes c.args.loaded.now c.table_beside.new.loaded grid files = rw c.deref.ensures.value at c.in_ok-table.ensures.reads in
    let p = err_from_is_err_and c.from_residual-in_err-paths.result c.from_residual-in_err-paths.ensures.1 in
    rw (p.1, p.2) (rows_stop told name bytes c.args.loaded.now c.table_beside.new.loaded grid files c.in_err-paths.field-0.0 found
    (λ read loaded same. c.in_err-paths.ensures.reads read loaded (c.view_of-table.ensures ∙ same)))

pub returns-clause-reads : goal.returns-clause-reads
returns-clause-reads g c =
    let told = g.T.Tree.files c.args.tree.now in
    let name = c.args.name.now in
    let bytes = c.args.bytes.items in
    let grid = c.in_ok-table.table.grid in
    let files = loaded_file name bytes ∷ maybe c.in_ok-table.index in
    let found : FoundTileref told name bytes c.args.loaded.now c.table_beside.new.loaded grid files = rw c.deref.ensures.value at c.in_ok-table.ensures.reads in
    rows_go_on told name bytes c.args.loaded.now c.table_beside.new.loaded grid files c.in_ok-tables.tables c.in_ok-paths.paths c.in_ok-tables.ensures found
    (rw c.deref.ensures.value at c.in_ok-table.ensures.are) (λ read loaded same. c.in_ok-paths.ensures.reads read loaded (c.view_of-table.ensures ∙ same))
