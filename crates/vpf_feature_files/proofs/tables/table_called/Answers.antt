use Rattle.std.proofs.Common.{◌≡◌, rules}
use Rattle.std.proofs.lemmas.Result.{err_from_is_err_and}
use Rattle.vpf_library_files.specs.Loading.Loading.{within}
use Rattle.vpf_feature_files.proofs.TableLemmas.{called_comes, called_none, called_stop}
use Rattle.vpf_feature_files.proofs.tables.table_called.Goals as goal

pub returns-in_err-table_in-in-Some-clause-reads : goal.returns-in_err-table_in-in-Some-clause-reads
returns-in_err-table_in-in-Some-clause-reads g c =
    let named : c.as_str-2.result.now ≡ within c.args.folder.now c.args.file = search rules in
    let p = err_from_is_err_and c.from_residual-in_err-table_in-in-Some.result c.from_residual-in_err-table_in-in-Some.ensures.1 in
    rw (p.1, p.2) (called_stop (g.T.Tree.files c.args.tree.now) (g.T.Tree.files c.optional_file.new.tree) c.args.folder.now c.args.file c.as_str-2.result.now c.args.loaded.now
    c.optional_file.new.loaded c.table_in.new.loaded c.in_ok-bytes.field-0 c.in-Some.bytes c.in_err-table_in-in-Some.field-0.0 named c.optional_file.ensures.only.files
    c.in_ok-bytes.ensures.told c.in-Some.is c.in_err-table_in-in-Some.ensures.reads)

pub returns-in_ok-table_in-in-Some-clause-reads : goal.returns-in_ok-table_in-in-Some-clause-reads
returns-in_ok-table_in-in-Some-clause-reads g c =
    let named : c.as_str-2.result.now ≡ within c.args.folder.now c.args.file = search rules in
    called_comes (g.T.Tree.files c.args.tree.now) (g.T.Tree.files c.optional_file.new.tree) c.args.folder.now c.args.file c.as_str-2.result.now c.args.loaded.now
    c.optional_file.new.loaded c.table_in.new.loaded c.in_ok-bytes.field-0 c.in-Some.bytes _ named c.optional_file.ensures.only.files
    c.in_ok-bytes.ensures.told c.in-Some.is c.in_ok-table_in-in-Some.ensures.reads

pub returns-in-None-clause-reads : goal.returns-in-None-clause-reads
returns-in-None-clause-reads g c =
    let named : c.as_str-2.result.now ≡ within c.args.folder.now c.args.file = search rules in
    called_none (g.T.Tree.files c.args.tree.now) c.args.folder.now c.args.file c.as_str-2.result.now c.args.loaded.now c.optional_file.new.loaded c.in_ok-bytes.field-0 named
    c.in_ok-bytes.ensures.told c.in-None.is
