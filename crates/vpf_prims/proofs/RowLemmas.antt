-- Rows that are read one after another.
use Rattle.std.proofs.Common.{[], ◌≡◌, Option, Err, List, ◌∷◌, ◌++◌, map, append_assoc, sym, ap, ◌∙◌}
use Rattle.vpf_table.specs.Firsts.{◌or◌, Tells}
use Rattle.vpf_table.specs.Findings.{Disagreement, disagreement_of}
use Rattle.vpf_table.specs.FindError.{FindError}
use Rattle.vpf_table.specs.FindError.TheVariants as errors
use Rattle.vpf_table.specs.FirstLaws.{or-assoc}
use Rattle.vpf_table.specs.FirstLaws.{or_first}

-- one more row is read
pub map_more : {R E : Type 0} (f : R → E) (xs more : List E) (e : E) (row : R) (rows rest : List R) (whole : List E) → more ≡ xs ++ e ∷ [] → e ≡ f row → rows ≡ row ∷ rest → xs ++ map f rows ≡ whole → more ++ map f rest ≡ whole
map_more {R} f xs more e row rows rest whole pushed is steps done = rw (pushed, append_assoc, is) (sym (ap (λ (v : List R). xs ++ map f v) steps) ∙ done)

-- what stops a call at the first line stops it at the first of both
pub tells_first : (e : FindError) (a b : Option Disagreement) → Tells {V = Unit {0}} (Err e) a → Tells {V = Unit {0}} (Err e) (a or b)
tells_first (errors.Finding f) a b some = or_first a b (disagreement_of f) some
tells_first errors.NoMemory a b h = tt

-- three lines, however they stand together
pub or-assoc_at : {F : Type 0} (a b d : Option F) {x : Option F} → ((a or b) or d) ≡ x → (a or (b or d)) ≡ x
or-assoc_at a b d is = sym (or-assoc a b d) ∙ is
