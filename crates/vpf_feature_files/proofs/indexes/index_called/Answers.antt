use Rattle.std.proofs.Common.{rules, ◌≡◌}
use Rattle.vpf_library_files.specs.Loading.Loading.{within}
use Rattle.vpf_feature_files.proofs.IndexLemmas.{index_comes}
use Rattle.vpf_feature_files.proofs.indexes.index_called.Goals as goal

pub returns-in_ok-index_in-in-Some-clause-reads : goal.returns-in_ok-index_in-in-Some-clause-reads
returns-in_ok-index_in-in-Some-clause-reads g c =
    let named : c.as_str-2.result.now ≡ within c.args.folder.now c.args.file = search rules in
    let whole : c.new-name.result ≡ within c.args.folder.now c.args.file = search rules in
    index_comes (g.T.Tree.files c.args.tree.now) c.args.folder.now c.args.file c.as_str-2.result.now c.args.order c.in_ok-bytes.field-0 c.in-Some.bytes c.args.loaded.now
    c.optional_file.new.loaded c.in_ok-index_in-in-Some.field-0 named c.in-Some.is c.in_ok-bytes.ensures.told
    (c.in_ok-index_in-in-Some.ensures.reads c.args.folder.now whole c.optional_file.new.loaded)
