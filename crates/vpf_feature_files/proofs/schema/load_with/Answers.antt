use Rattle.std.proofs.Common.{◌∙◌, Some, ap, refl}
use Rattle.vpf_source.specs.declared.file.File.{File}
use Rattle.vpf_feature_files.proofs.SchemaLemmas.{schema_kept}
use Rattle.vpf_feature_files.proofs.schema.load_with.Goals as goal

pub returns-clause-reads : goal.returns-clause-reads
returns-clause-reads g c =
    schema_kept (g.T.Tree.files c.args.tree.now) c.args.folder.now c.args.name c.as_str.result.now c.args.bytes.items c.deref.result.now c.in_ok-counted.tables.items _ c.args.loaded.now
    c.load_in.new.loaded c.requires.named c.as_str.ensures c.deref.ensures.value (ap (λ (file : File). Some file) c.new.ensures ∙ rw c.new-bytes.ensures refl) refl c.in_ok-counted.ensures.reads
