use Rattle.std.proofs.Common.{◌+◌, ◌∙◌, ap, sym, refl, drop}
use Rattle.std.proofs.lemmas.List.{at_drop_all, at_drop_more}
use Rattle.vpf_source.specs.declared.file.File.{File}
use Rattle.vpf_drill.specs.Digest.{digest_after, digest_of_files}
use Rattle.vpf_drill.proofs.digest.Digest.and_files.Goals as goal

pub loop-file-init : goal.loop-file-init
loop-file-init c = refl

pub loop-file-preserved : goal.loop-file-preserved
loop-file-preserved c =
    let i = c.loop-file.file-index in
    let file : File = c.file-item.result in
    ap (λ d. digest_of_files d (drop (i + 1) c.args.files.now)) (c.and-digest.ensures ∙ ap (digest_after c.loop-file.digest.0) (c.as_slice.ensures ∙ ap (λ (f : File). f.bytes) c.file-item.is))
    ∙ sym (at_drop_more (digest_of_files c.loop-file.digest.0) c.args.files.now i file c.loop-file-test.true)
    ∙ c.loop-file.invariant

pub returns : goal.returns
returns c = sym (at_drop_all (digest_of_files c.loop-file.digest.0) c.args.files.now c.loop-file.file-index c.loop-file-test.false) ∙ c.loop-file.invariant
