use Rattle.std.proofs.Common.{◌≡◌, ℕ, ◌≤◌, ◌∙◌, sym, subst, List}
use Rattle.std.specs.Prelude.{All}
use Rattle.vpf_prims.specs.Reading.{primitives_of}
use Rattle.vpf_cut_rings.specs.Inner.Rings.{ring_faces}
use Rattle.vpf_cut_rings.proofs.PlaceLemmas.{faces_within}
use Rattle.vpf_cut_rings.proofs.rings.rings_by_face.Goals as goal

pub of_places-requires-clause-within : goal.of_places-requires-clause-within
of_places-requires-clause-within c =
    let is : c.deref.result.now ≡ ring_faces (primitives_of c.args.source.now.tables) = c.deref.ensures.value ∙ c.in_ok-faces.ensures.faces in
    subst (λ (xs : List ℕ). All (λ f. f ≤ c.faces.result) xs) (sym is)
    (subst (λ (n : ℕ). All (λ f. f ≤ n) (ring_faces (primitives_of c.args.source.now.tables))) (sym c.faces.ensures.value)
    (faces_within (primitives_of c.args.source.now.tables) c.names_its_own.ensures))
