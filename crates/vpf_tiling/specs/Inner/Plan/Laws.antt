-- What is so of every plan.
use Rattle.std.specs.Prelude.{◌≡◌, ◌↔◌, ℕ, ◌<◌, [], length, None, Some, codes}
use Rattle.vpf_table.specs.Grid.{Grid}
use Rattle.vpf_prims.specs.Lists.{kth}
use Rattle.vpf_prims.specs.Numbering.{IsRowOf}
use Rattle.vpf_prims.specs.Reading.{named_cell, natural_in}
use Rattle.vpf_prims.specs.References.{signed_in}
use Rattle.vpf_tiling.specs.Plan.Named.{named_tile}
use Rattle.vpf_tiling.specs.Plan.Plans.{IsPlanTable, plan_finding}

-- there is no finding exactly where it is a plan
abbrev pub PlansDecide : Type 0
PlansDecide = (grid : Grid) → (plan_finding grid ≡ None) ↔ IsPlanTable grid

-- row k of a plan is of this face
abbrev pub IsOfFace : Grid → (face k : ℕ) → Type 0
IsOfFace plan face k = natural_in (named_cell plan.head.columns (codes "id") (kth plan.rows k [])) ≡ Some face

-- it is the first row of the face
pub record IsFirstOf (plan : Grid) (face k : ℕ) : Type 0 where
  pub row : IsRowOf (length plan.rows) k
  pub of : IsOfFace plan face k
  pub first : (j : ℕ) → IsRowOf (length plan.rows) j → j < k → ¬ IsOfFace plan face j

-- the first row of a face names its tile
abbrev pub FirstRowNames : Type 0
FirstRowNames = (plan : Grid) (face k : ℕ) → IsFirstOf plan face k
    → named_tile plan face ≡ Some (signed_in (named_cell plan.head.columns (codes "tile_id") (kth plan.rows k [])))

-- where no row is of a face, there is none
abbrev pub NoRowNames : Type 0
NoRowNames = (plan : Grid) (face : ℕ) → ((k : ℕ) → IsRowOf (length plan.rows) k → ¬ IsOfFace plan face k) → named_tile plan face ≡ None
