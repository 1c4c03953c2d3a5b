use Rattle.std.proofs.Common.{◌≡◌, ◌∙◌, ◌∷◌, refl, sym, rules}
use Rattle.std.proofs.lemmas.Result.{err_from_is_err_and}
use Rattle.vpf_library_files.specs.Loading.Holding.{AreFilesOf}
use Rattle.vpf_library_files.specs.Loading.Loading.{loaded_file, within}
use Rattle.vpf_library_files.specs.Loading.Loads.{maybe}
use Rattle.vpf_feature_files.proofs.TableLemmas.{Found, indexes_come, indexes_stop, table_stops}
use Rattle.vpf_feature_files.proofs.tables.table_in.Goals as goal

pub returns-in_err-table-clause-reads : goal.returns-in_err-table-clause-reads
returns-in_err-table-clause-reads g c =
    let named : c.as_str-2.result.now ≡ within c.args.folder.now c.args.file = search rules in
    let p = err_from_is_err_and c.from_residual-in_err-table.result c.from_residual-in_err-table.ensures.1 in
    rw (p.1, p.2) (λ held e. table_stops held c.args.folder.now c.args.file c.as_str-2.result.now c.args.bytes.items c.args.loaded.now c.table_beside.new.loaded c.in_err-table.field-0.0
    named (rw c.deref.ensures.value at (c.in_err-table.ensures.reads held e)))

pub returns-in_err-indexes-clause-reads : goal.returns-in_err-indexes-clause-reads
returns-in_err-indexes-clause-reads g c =
    let name = c.as_str-2.result.now in
    let bytes = c.args.bytes.items in
    let grid = c.in_ok-table.table.grid in
    let files = loaded_file name bytes ∷ maybe c.in_ok-table.index in
    let found : Found (g.T.Tree.files c.args.tree.now) name bytes c.args.loaded.now c.table_beside.new.loaded grid files = rw c.deref.ensures.value at c.in_ok-table.ensures.reads in
    let named : c.as_str-2.result.now ≡ within c.args.folder.now c.args.file = search rules in
    let p = err_from_is_err_and c.from_residual-in_err-indexes.result c.from_residual-in_err-indexes.ensures.1 in
    rw (p.1, p.2) (indexes_stop (g.T.Tree.files c.args.tree.now) (g.T.Tree.files c.table_beside.new.tree) c.args.folder.now c.args.file name bytes grid c.header.result.now files
    c.args.loaded.now c.table_beside.new.loaded c.load_indexes.new.loaded c.in_err-indexes.field-0.0 named c.table_beside.ensures.only.files c.header.ensures found c.in_err-indexes.ensures.reads)

pub returns-clause-reads : goal.returns-clause-reads
returns-clause-reads g c =
    let name = c.as_str-2.result.now in
    let bytes = c.args.bytes.items in
    let grid = c.in_ok-table.table.grid in
    let files = loaded_file name bytes ∷ maybe c.in_ok-table.index in
    let found : Found (g.T.Tree.files c.args.tree.now) name bytes c.args.loaded.now c.table_beside.new.loaded grid files = rw c.deref.ensures.value at c.in_ok-table.ensures.reads in
    let named : c.as_str-2.result.now ≡ within c.args.folder.now c.args.file = search rules in
    let spelled : c.as_str-3.result.now ≡ c.as_str-2.result.now = c.as_str-3.ensures.value ∙ sym c.as_str-2.ensures.value in
    let are : AreFilesOf name grid files = rw c.deref.ensures.value at c.in_ok-table.ensures.are in
    let alike : c.in_ok-table-2.table ≡ files = rw spelled at c.in_ok-table-2.ensures in
    indexes_come (g.T.Tree.files c.args.tree.now) (g.T.Tree.files c.table_beside.new.tree) c.args.folder.now c.args.file name bytes grid c.header.result.now files _
    c.args.loaded.now c.table_beside.new.loaded c.load_indexes.new.loaded named c.table_beside.ensures.only.files c.header.ensures refl alike are found c.in_ok-indexes.ensures.reads
