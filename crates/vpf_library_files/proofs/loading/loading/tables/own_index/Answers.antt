use Rattle.std.proofs.Common.{◌∙◌, Some, sym}
use Rattle.vpf_library_files.proofs.loading.LoadLemmas.{indexed}
use Rattle.vpf_library_files.proofs.loading.loading.tables.own_index.Goals as goal

pub returns-clause-are : goal.returns-clause-are
returns-clause-are c of named read =
    let table = c.args.table.now in
    let again = c.opened_is_read.ensures table.bytes (Some c.deref.result.now) table.grid c.in_default.ensures.exact in
    indexed of c.args.name table.bytes c.deref.result.now c.new.result table.grid table.grid named
    (c.new.ensures ∙ sym c.deref.ensures.value) c.requires read again c.in_default.ensures.found
