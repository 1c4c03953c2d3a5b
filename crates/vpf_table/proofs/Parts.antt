-- The parts of what reading gives, taken apart.
use Rattle.std.proofs.Common.{◌≡◌, ℕ, ◌+◌, List, Result, Ok, Err, ap}
use Rattle.vpf_base.proofs.Results.{ok_is}
use Rattle.vpf_triplet.specs.declared.places.Place.{Place}
use Rattle.vpf_triplet.specs.declared.places.Code.{Code}
use Rattle.vpf_findings.specs.Values.{Value}
use Rattle.vpf_table.specs.Grid.{Row}
use Rattle.vpf_table.specs.Reading.{lifted}

pub lifted_ok : (at : ℕ) (r : Result (Value × ℕ) Code) (x : Value × ℕ) → lifted at r ≡ Ok x → (k : ℕ) × (r ≡ Ok (x.0, k)) × (at + k ≡ x.1)
lifted_ok at (Ok y) x e =
    let p = ok_is {x = (y.0, at + y.1)} {y = x} e in
    (y.1, ap (λ (v : Value). Ok (v, y.1)) (ap (λ (z : Value × ℕ). z.0) p), ap (λ (z : Value × ℕ). z.1) p)
lifted_ok at (Err c) x e = absurd cc

abbrev pub rows : List Row → Result (List Row) Place
rows rs = Ok rs
