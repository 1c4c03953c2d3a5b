-- Where the columns of roles stand.
use Rattle.std.proofs.Common.{◌≡◌, ℕ, ◌<◌, Option, Some, None, List, length, refl, arith}
use Rattle.std.specs.Prelude.{IfSome}
use Rattle.std.proofs.lemmas.List.{length-map}
use Rattle.std.proofs.lemmas.List.Quantifiers.{position-Some}
use Rattle.vpf_table.specs.Folding.{same_name}
use Rattle.vpf_table.specs.Head.{Col, names, place_of}

if_some : {A : Type 0} (P : A → Type 0) (o : Option A) → ((x : A) → o ≡ Some x → P x) → IfSome o P
if_some P None h = tt
if_some P (Some x) h = h x refl

pub place_within : (name : List ℕ) (columns : List Col) → IfSome (place_of name columns) (λ c. c < length columns)
place_within name columns = if_some (λ (c : ℕ). c < length columns) (place_of name columns) (λ c e.
    omega (arith, (position-Some (same_name name) (names columns) c name e).0, length-map columns (λ (column : Col). column.name)))
