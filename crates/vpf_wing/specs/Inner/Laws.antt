-- What is so of the wings of all edges, and of every edge table.
use Rattle.std.specs.Prelude.{◌≡◌, ◌↔◌, ℕ, ◌^◌, ◌<◌, ◌≤◌, None, Some, List, length}
use Rattle.vpf_value.specs.Values.{Value}
use Rattle.vpf_darts.specs.declared.darts.Dart.{Dart}
use Rattle.vpf_darts.specs.declared.darts.TileDart.{TileDart}
use Rattle.vpf_darts.specs.Maps.{IsMap}
use Rattle.vpf_prims.specs.Grid.{Grid}
use Rattle.vpf_prims.specs.declared.rows.Edge.{Edge}
use Rattle.vpf_prims.specs.Edges.{EdgesAt, HaveWings}
use Rattle.vpf_prims.specs.Primitives.{Library, Primitives, edge_count, untiled}
use Rattle.vpf_prims.specs.Numbering.{IsNumbered}
use Rattle.vpf_prims.specs.Reading.{primitives_of}
use Rattle.vpf_prims.specs.Tables.{TileTables}
use Rattle.vpf_wing.specs.Links.{links_of, local_map}
use Rattle.vpf_wing.specs.WellFormed.{HasCycles, HasLoops, IsWellFormed}
use Rattle.vpf_wing.specs.CycleLines.{cycles_finding, loops_finding}
use Rattle.vpf_wing.specs.Nexts.{MakeMap}
use Rattle.vpf_wing.specs.Wings.{wings_finding}
use Rattle.vpf_wing.specs.Boundaries.{table_edges, table_finding, map_of, IsBoundaryListing}

-- there is no finding on wings exactly where they make a map
abbrev pub NoFindingWhereMapIsMade : Type 0
NoFindingWhereMapIsMade = (columns : EdgesAt) (cell : Dart → Value) (edges : List Edge) → (wings_finding columns cell edges ≡ None) ↔ MakeMap edges

-- where they do, and are among the edges, the edges are a combinatorial map
abbrev pub MadeMapIsMap : Type 0
MadeMapIsMap = (edges : List Edge) → HaveWings (length edges) edges → MakeMap edges → IsMap (map_of edges)

-- the edges of a table without findings are a combinatorial map
abbrev pub EdgesAreMap : Type 0
EdgesAreMap = (grid : Grid) → table_finding grid ≡ None → IsMap (map_of (table_edges grid))

-- a table without findings has a listing of its boundary cycles
abbrev pub HasBoundaryListing : Type 0
HasBoundaryListing = (grid : Grid) → table_finding grid ≡ None → (lists : List (List TileDart)) × IsBoundaryListing grid lists

-- two listings of the boundary cycles of one table are equal
abbrev pub OneBoundaryListing : Type 0
OneBoundaryListing = (grid : Grid) (xs ys : List (List TileDart)) → IsBoundaryListing grid xs → IsBoundaryListing grid ys → xs ≡ ys

-- where its numbers are right, there is no finding on the wings, cycles, rings and nodes of a tile exactly where its cycles hold
abbrev pub CyclesDecide : Type 0
CyclesDecide = (L : Library) (t : ℕ) (T : TileTables) → L.tile t ≡ Some (primitives_of T.tables) → t ≤ L.last → edge_count L t < 2 ^ 24 → IsNumbered L t
    → (cycles_finding t T ≡ None) ↔ HasCycles L t

-- there is no finding on the loops of an untiled coverage exactly where they have two faces
abbrev pub LoopsDecide : Type 0
LoopsDecide = (T : TileTables) → length T.tables.edg.rows < 2 ^ 24 → (loops_finding 0 T ≡ None) ↔ HasLoops (links_of (untiled (primitives_of T.tables)))

-- a well-formed coverage is a combinatorial map
abbrev pub WellFormedHasMap : Type 0
WellFormedHasMap = (c : Primitives) → length c.edges < 2 ^ 24 → IsWellFormed c → IsMap (local_map (links_of (untiled c)))
