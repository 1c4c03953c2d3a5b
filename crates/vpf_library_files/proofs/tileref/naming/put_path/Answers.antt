use Rattle.std.proofs.Common.{ℕ, List, Bor, rules}
use Rattle.vpf_source.specs.Names.Items.{is_plain_name}
use Rattle.vpf_library_files.proofs.tileref.NameLemmas.{every_other, passes_at}
use Rattle.vpf_library_files.proofs.tileref.naming.put_path.Goals as goal

pub put_folder-requires-in-loop-folder : goal.put_folder-requires-in-loop-folder
put_folder-requires-in-loop-folder c =
    let name : Bor (List ℕ) → List ℕ = λ (folder : Bor (List ℕ)). folder.now in
    let others = c.in-Some.others.now in
    let plain = every_other is_plain_name name c.args.folders.now c.in-Some.first.now others (search rules) c.requires in
    passes_at (λ (folder : Bor (List ℕ)). is_plain_name folder.now) others c.loop-folder.folder-index _ c.loop-folder-test.true plain
