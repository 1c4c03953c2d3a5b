-- Why a coverage isn't cut into tiles by a plan.
use Rattle.std.specs.Prelude.{ℕ, ℤ, ◌+◌, ◌-◌, ◌&&◌, ◌==◌, List, Option, None, Some, length}
use Rattle.vpf_findings.specs.Firsts.{◌or◌, unless, where_holds, first_over}
use Rattle.vpf_prims.specs.Lists.{kth}
use Rattle.vpf_prims.specs.Primitives.{Primitives, absent_edge, entities_in}
use Rattle.vpf_prims.specs.References.{id_of}
use Rattle.vpf_tiling.specs.Presence.{containing_face}
use Rattle.vpf_tiling.specs.declared.tileable.refusals.Refusal.{Refusal}
use Rattle.vpf_tiling.specs.declared.tileable.refusals.Refusal.TheVariants as refusals
use Rattle.vpf_tiling.specs.Tileable.Planning.{named_for, is_tile}

-- nothing is named for a face
abbrev pub not_named : ℕ → Option ℤ → Option Refusal
not_named f None = Some (refusals.NoPlan f)
not_named f (Some z) = None

-- the plan has no row for a face
abbrev pub no_plan : List (Option ℤ) → ℕ → Option Refusal
no_plan named f = not_named f (named_for named f)

-- it has none for the first of the faces from 2 on
abbrev pub no_plans : List (Option ℤ) → ℕ → Option Refusal
no_plans named faces = first_over (λ i. no_plan named (i + 1)) 1 (faces - 1)

-- what is named for a face is no tile
abbrev pub named_no_tile : ℕ → ℕ → Option ℤ → Option Refusal
named_no_tile tiles f None = None
named_no_tile tiles f (Some z) = unless (is_tile tiles z) (refusals.UnknownTile f z)

-- the plan names no tile for a face, but another number
abbrev pub unknown_tile : List (Option ℤ) → ℕ → ℕ → Option Refusal
unknown_tile named tiles f = named_no_tile tiles f (named_for named f)

-- it does for the first of the faces from 2 on
abbrev pub unknown_tiles : List (Option ℤ) → ℕ → ℕ → Option Refusal
unknown_tiles named tiles faces = first_over (λ i. unknown_tile named tiles (i + 1)) 1 (faces - 1)

-- an edge has the universe on both sides
abbrev pub edge_outside : Primitives → ℕ → Option Refusal
edge_outside c e =
    where_holds ((id_of (kth c.edges e absent_edge).right_face == 1) && (id_of (kth c.edges e absent_edge).left_face == 1)) (refusals.EdgeOutside e)

-- the first of all edges does
abbrev pub edges_outside : Primitives → Option Refusal
edges_outside c = first_over (λ i. edge_outside c (i + 1)) 0 (length c.edges)

-- an entity node lies in the universe
abbrev pub entity_outside : Primitives → ℕ → Option Refusal
entity_outside c n = where_holds (containing_face c n == 1) (refusals.EntityOutside n)

-- the first of all entity nodes does
abbrev pub entities_outside : Primitives → Option Refusal
entities_outside c = first_over (λ i. entity_outside c (i + 1)) 0 (length (entities_in (Some c)))

-- the first cause, kind by kind, and in each kind the least number
abbrev pub first_refusal : Primitives → List (Option ℤ) → ℕ → Option Refusal
first_refusal c named tiles =
    no_plans named (length c.faces) or (unknown_tiles named tiles (length c.faces) or (edges_outside c or entities_outside c))
