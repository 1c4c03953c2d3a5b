use Rattle.std.proofs.Common.{◌≡◌, refl, rules}
use Rattle.vpf_feature_files.specs.Reading.{schema_name}
use Rattle.vpf_feature_files.proofs.SchemaLemmas.{no_schema, schema_loads}
use Rattle.vpf_feature_files.proofs.schema.load_all.Goals as goal

pub load_with-requires-clause-named : goal.load_with-requires-clause-named
load_with-requires-clause-named g c =
    let whole : c.new-name.result ≡ schema_name c.args.folder.now = search rules in
    whole

pub returns-in-Some-clause-reads : goal.returns-in-Some-clause-reads
returns-in-Some-clause-reads g c =
    let named : c.as_str.result.now ≡ schema_name c.args.folder.now = search rules in
    let whole : c.new-name.result ≡ schema_name c.args.folder.now = search rules in
    schema_loads (g.T.Tree.files c.args.tree.now) (g.T.Tree.files c.optional_file.new.tree) c.args.folder.now c.new-name.result c.as_str.result.now c.args.loaded.now
    c.optional_file.new.loaded c.load_with.new.loaded c.in_ok-bytes.field-0 c.in-Some.bytes c.load_with.result named whole c.optional_file.ensures.only.files
    c.in_ok-bytes.ensures.told c.in-Some.is c.load_with.ensures.reads

pub returns-in-None-clause-reads : goal.returns-in-None-clause-reads
returns-in-None-clause-reads g c =
    let named : c.as_str.result.now ≡ schema_name c.args.folder.now = search rules in
    no_schema (g.T.Tree.files c.args.tree.now) c.args.folder.now c.as_str.result.now c.args.loaded.now c.optional_file.new.loaded c.in_ok-bytes.field-0 _ named
    c.in_ok-bytes.ensures.told c.in-None.is refl c.new.ensures.items
