-- The lines on a tile, one part after another.
use Rattle.std.proofs.Common.{◌≡◌, ℕ, Option, Some, None, subst}
use Rattle.std.specs.Prelude.{Result}
use Rattle.vpf_findings.specs.declared.errors.FindError.{FindError}
use Rattle.vpf_findings.specs.Findings.{Disagreement}
use Rattle.vpf_findings.specs.Firsts.{◌or◌, Tells, first_of_rows}
use Rattle.vpf_prims.specs.Primitives.{own_edges}
use Rattle.vpf_prims.specs.Reading.{primitives_of}
use Rattle.vpf_prims.specs.Tables.{TileTables}
use Rattle.vpf_wing.specs.CycleLines.{cycles_finding, sides_line, rings_finding, node_lines, own_pointers, own_rings, own_first_edges, tile_columns, wing_cell}
use Rattle.vpf_wing.specs.Wings.{wings_finding}
use Rattle.vpf_findings.specs.Inner.FirstLaws.{or_first}

-- where it says nothing, the second is
pub or_later : {F : Type 0} (a b c : Option F) → a ≡ None → b ≡ c → (a or b) ≡ c
or_later a b c none same = rw none same

pub tells_same : {V : Type 0} (r : Result V FindError) (a b : Option Disagreement) → a ≡ b → Tells r a → Tells r b
tells_same r a b same h = subst (λ (o : Option Disagreement). Tells r o) same h

-- the four parts of what disagrees in the cycles of a tile
abbrev pub wings_part : ℕ → TileTables → Option Disagreement
wings_part t T = wings_finding (tile_columns t T) (wing_cell T.tables) (own_edges (primitives_of T.tables))

abbrev pub sides_part : ℕ → TileTables → Option Disagreement
sides_part t T = first_of_rows (sides_line t T (own_edges (primitives_of T.tables))) 1 (own_edges (primitives_of T.tables))

abbrev pub rings_part : ℕ → TileTables → Option Disagreement
rings_part t T = rings_finding t T (own_edges (primitives_of T.tables)) (own_pointers (primitives_of T.tables)) (own_rings (primitives_of T.tables))

abbrev pub nodes_part : ℕ → TileTables → Option Disagreement
nodes_part t T = first_of_rows (node_lines t T (own_edges (primitives_of T.tables))) 1 (own_first_edges (primitives_of T.tables))

pub wings_told : (t : ℕ) (T : TileTables) (f : Disagreement) → wings_part t T ≡ Some f → cycles_finding t T ≡ Some f
unfolding cycles_finding
wings_told t T f some = or_first (wings_part t T) _ f some

pub sides_told : (t : ℕ) (T : TileTables) (f : Disagreement) → wings_part t T ≡ None → sides_part t T ≡ Some f → cycles_finding t T ≡ Some f
unfolding cycles_finding
sides_told t T f wings some = or_later (wings_part t T) _ _ wings (or_first (sides_part t T) _ f some)

pub rings_told : (t : ℕ) (T : TileTables) (first : Option Disagreement) → wings_part t T ≡ None → sides_part t T ≡ None
    → (rings_part t T or nodes_part t T) ≡ first → cycles_finding t T ≡ first
unfolding cycles_finding
rings_told t T first wings sides rest = or_later (wings_part t T) _ _ wings (or_later (sides_part t T) _ _ sides rest)
