-- What is kept of the edges and nodes of a glued coverage.
use Rattle.std.specs.Prelude.{◌≡◌, ℕ, ◌*◌, ◌≤◌, true, List, length, map}
use Rattle.vpf_base.specs.Limits.{most_rows}
use Rattle.vpf_darts.specs.declared.darts.TileDart.{TileDart}
use Rattle.vpf_darts.specs.Darts.{tile_dart_code}
use Rattle.vpf_prims.specs.Numbering.{IsRowOf}
use Rattle.vpf_prims.specs.Primitives.{Library}
use Rattle.vpf_wing.specs.Inner.DartLaws.{stands_in}
use Rattle.vpf_wing.specs.Inner.Kept.Kept.{AreInOrder}
use Rattle.vpf_tiling_laws.specs.Gluing.Whole.{Whole, whole_of}
use Rattle.vpf_tiling_laws.specs.Gluing.Glued.{first_darts, node_number, plus_darts}
use Rattle.vpf_renumbering.specs.Inner.Whole.Gathering.{AreHomeDarts}
use Rattle.vpf_renumbering.specs.declared.glued_edges.glued.EdgeJoins.{EdgeJoins}
use Rattle.vpf_renumbering.specs.declared.glued_edges.nodes.Nodes.{Nodes}
use Rattle.vpf_renumbering.specs.Inner.GluedEdges.Numbers.{kept_for}

-- these are the nodes of a library, and each home dart has the number of the one where it begins
pub record AreNodesOf (L : Library) (nodes : Nodes) : Type 0 where
  pub firsts : map tile_dart_code nodes.firsts.items ≡ first_darts (whole_of L)
  pub few : length (first_darts (whole_of L)) ≤ 2 * most_rows
  pub one_each : length nodes.numbers.items ≡ length (whole_of L).order
  pub numbers : (d : ℕ) → stands_in d (whole_of L).order ≡ true → kept_for (whole_of L).order nodes.numbers.items d ≡ node_number (whole_of L) d
  pub rows : (d : ℕ) → stands_in d (whole_of L).order ≡ true → IsRowOf (length (first_darts (whole_of L))) (node_number (whole_of L) d)

-- what the row of an edge names are nodes and edges
pub record AreEdgeRows (W : Whole) (e : EdgeJoins) : Type 0 where
  pub start_node : IsRowOf (length (first_darts W)) e.start_node
  pub end_node : IsRowOf (length (first_darts W)) e.end_node
  pub right_edge : IsRowOf (length (plus_darts W)) e.right_edge
  pub left_edge : IsRowOf (length (plus_darts W)) e.left_edge

-- these are the home darts of a library, the + darts among them, and its nodes; there are no more edges than a table has rows
pub record KeepsGlued (L : Library) (home plus : List TileDart) (found : Nodes) : Type 0 where
  pub few : length (plus_darts (whole_of L)) ≤ most_rows
  pub darts : AreHomeDarts L home
  pub edges : map tile_dart_code plus ≡ plus_darts (whole_of L)
  pub in_order : AreInOrder plus
  pub nodes : AreNodesOf L found
