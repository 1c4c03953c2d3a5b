use Rattle.std.proofs.Common.{ℕ, List, Bor, ◌∙◌, sym, rules}
use Rattle.vpf_library_files.proofs.tileref.NameLemmas.{path_tested}
use Rattle.vpf_library_files.proofs.tileref.naming.is_path.Goals as goal

pub returns-then-not-is_empty : goal.returns-then-not-is_empty
returns-then-not-is_empty c = c.are_folders.ensures ∙ sym (path_tested (λ (name : Bor (List ℕ)). name.now) c.args.folders.now (search rules))
