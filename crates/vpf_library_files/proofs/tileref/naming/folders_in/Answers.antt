use Rattle.std.proofs.Common.{List, ℕ, map, Bor, ap, ◌∙◌, rules}
use Rattle.std.specs.Prelude.{filter}
use Rattle.std.proofs.lemmas.List.Elements.{filter_from_retain}
use Rattle.vpf_library_files.specs.Tileref.Paths.{is_some_name}
use Rattle.vpf_library_files.proofs.tileref.NameLemmas.{filter_seen}
use Rattle.vpf_library_files.proofs.tileref.naming.folders_in.Goals as goal

pub returns : goal.returns
returns c =
    let texts : List (Bor (List ℕ)) → List (List ℕ) = λ (names : List (Bor (List ℕ))). map (λ (name : Bor (List ℕ)). name.now) names in
    ap texts (filter_from_retain _ (λ (name : Bor (List ℕ)). is_some_name name.now) (λ p x b q r. search rules) _ _ _ c.retain.ensures.filtered)
    ∙ filter_seen (λ (name : Bor (List ℕ)). name.now) is_some_name c.in_ok-folders.folders.items
    ∙ ap (filter is_some_name) c.in_ok-folders.ensures
