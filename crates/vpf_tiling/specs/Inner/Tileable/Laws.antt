-- What is so of every well-formed coverage and every plan.
use Rattle.std.specs.Prelude.{◌≡◌, ◌↔◌, ℕ, ℤ, ◌≤◌, ◌<◌, ◌^◌, List, Option, None, length}
use Rattle.vpf_prims.specs.Primitives.{Primitives}
use Rattle.vpf_tiling.specs.Plans.{IsPlan, HasPlaces}
use Rattle.vpf_tiling.specs.Tileable.Planning.{plan_of}
use Rattle.vpf_tiling.specs.Tileable.Refusals.{first_refusal}

-- there is no cause exactly where the plan names one of some tiles for each face but the universe, and each edge and each entity node has a place
abbrev pub RefusalsDecide : Type 0
RefusalsDecide = (c : Primitives) (named : List (Option ℤ)) (tiles : ℕ) → length c.edges < 2 ^ 24 → 1 ≤ tiles
    → (first_refusal c named tiles ≡ None) ↔ (IsPlan c (plan_of named) tiles × HasPlaces c)
