use Rattle.std.proofs.Common.{List, ℕ, map, Bor, ap, ◌∙◌, rules}
use Rattle.std.specs.Prelude.{filter}
use Rattle.std.proofs.lemmas.List.Elements.{filter_from_retain}
use Rattle.vpf_source.specs.Names.Naming.{is_part}
use Rattle.vpf_source.proofs.names.Filtering.{map-filter}
use Rattle.vpf_source.proofs.names.naming.parts_of.Goals as goal

pub returns : goal.returns
returns c =
    let texts : List (Bor (List ℕ)) → List (List ℕ) = λ (pieces : List (Bor (List ℕ))). map (λ (piece : Bor (List ℕ)). piece.now) pieces in
    ap texts (filter_from_retain _ (λ (piece : Bor (List ℕ)). is_part piece.now) (λ p x b q r. search rules) _ _ _ c.retain.ensures.filtered)
    ∙ map-filter (λ (piece : Bor (List ℕ)). piece.now) is_part c.in_ok-parts.parts.items
    ∙ ap (filter is_part) c.in_ok-parts.ensures
