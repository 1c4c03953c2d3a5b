use Rattle.std.proofs.Common.{◌≡◌, ◌+◌, ◌++◌, ◌∷◌, [], take, sym, ap, ◌∙◌}
use Rattle.std.proofs.lemmas.List.{take_more}
use Rattle.vpf_source.specs.declared.file.File.{File}
use Rattle.vpf_source.proofs.Made.{with_all-push}
use Rattle.vpf_source.proofs.making.make_all.Goals as goal

pub loop-file-preserved : goal.loop-file-preserved
loop-file-preserved g c =
    let kept = c.loop-file.invariant in
    let file = c.file-item.result in
    let files = c.args.files.now in
    let more : take (c.loop-file.file-index + 1) files ≡ take c.loop-file.file-index files ++ file ∷ [] =
    take_more files c.loop-file.file-index file c.loop-file-test.true ∙ ap (λ (f : File). take c.loop-file.file-index files ++ f ∷ []) (sym c.file-item.is) in
    record {
      made = rw (more, with_all-push (take c.loop-file.file-index files) file (g.T.Tree.files c.args.tree.now), ← kept.made, ← c.as_str.ensures, ← c.as_slice.ensures) c.in_ok-make.ensures.made;
      stood = c.in_ok-make.ensures.stood (λ no. cc) ∙ kept.stood;
    }
