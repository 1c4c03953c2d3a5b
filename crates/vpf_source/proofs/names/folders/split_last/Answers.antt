use Rattle.std.proofs.Common.{◌≡◌, ◌∙◌, ◌++◌, ◌∷◌, [], ℕ, List, Bor, map, ap, sym}
use Rattle.std.proofs.lemmas.List.{map-append}
use Rattle.vpf_source.proofs.names.Pieces.{open_split, closed_split}
use Rattle.vpf_source.proofs.names.folders.split_last.Goals as goal

whole : (pieces front : List (Bor (List ℕ))) (last : Bor (List ℕ)) → pieces ≡ front ++ last ∷ [] → map (λ (piece : Bor (List ℕ)). piece.now) pieces ≡ map (λ (piece : Bor (List ℕ)). piece.now) front ++ last.now ∷ []
whole pieces front last e = ap (map (λ (piece : Bor (List ℕ)). piece.now)) e ∙ map-append (λ (piece : Bor (List ℕ)). piece.now) front (last ∷ [])

pub returns-then-is_empty : goal.returns-then-is_empty
returns-then-is_empty c = sym (open_split _ _ _ (whole c.args.pieces.now c.in_ok-last.folders.now c.in_ok-last.last.now c.in_ok-last.ensures.cases.0) (sym c.is_empty.ensures ∙ c.if-is_empty.true))

pub returns : goal.returns
returns c = sym (closed_split _ _ _ (whole c.args.pieces.now c.in_ok-last.folders.now c.in_ok-last.last.now c.in_ok-last.ensures.cases.0) (sym c.is_empty.ensures ∙ c.if-is_empty.false))
