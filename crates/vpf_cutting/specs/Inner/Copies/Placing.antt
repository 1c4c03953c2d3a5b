-- In which tiles the primitives of a coverage are: edges with the faces beside them, nodes with their edges, faces and entity nodes alone.
use Rattle.std.specs.Prelude.{ℕ, ◌≤◌, Bool, ◌==◌, ◌&&◌, ◌||◌, not, List}
use Rattle.std.specs.List.{list_any, range_with_len}
use Rattle.vpf_cutting.specs.declared.copies.edges.EdgeNodes.{EdgeNodes}
use Rattle.vpf_cutting.specs.declared.copies.edges.EdgeTiles.{EdgeTiles}
use Rattle.vpf_cutting.specs.Inner.Copies.Presence.{Presence, has}
use Rattle.vpf_prims.specs.Lists.{kth}

-- an edge between no tiles
abbrev pub no_tiles : EdgeTiles
no_tiles = record { left = 0; right = 0 }

-- an edge without nodes
abbrev pub no_nodes : EdgeNodes
no_nodes = record { start = 0; end = 0 }

-- the tile is on the left or on the right
abbrev pub is_side : EdgeTiles → ℕ → Bool
is_side sides tile = (sides.left == tile) || (sides.right == tile)

-- the edge begins or ends at the node
abbrev pub is_end : EdgeNodes → ℕ → Bool
is_end ends node = (ends.start == node) || (ends.end == node)

-- an edge is in the tiles beside it
abbrev pub is_beside : List EdgeTiles → (tile edge : ℕ) → Bool
is_beside sides tile edge = not (tile == 0) && is_side (kth sides edge no_tiles) tile

-- an item that has one tile is in that
abbrev pub is_at : List ℕ → (tile item : ℕ) → Bool
is_at places tile item = not (tile == 0) && (kth places item 0 == tile)

-- a node is in the tiles of the edges that begin or end there
abbrev pub has_end : Presence → List EdgeNodes → (tile node : ℕ) → Bool
has_end edges ends tile node = list_any (λ edge. has edges tile edge && is_end (kth ends edge no_nodes) node) (range_with_len 1 edges.items)

-- both tiles beside an edge are among so many
pub record AreTiles (tiles : ℕ) (sides : EdgeTiles) : Type 0 where
  pub left : sides.left ≤ tiles
  pub right : sides.right ≤ tiles

-- an edge begins and ends at two of so many nodes
pub record AreNodes (nodes : ℕ) (ends : EdgeNodes) : Type 0 where
  pub from_start : 1 ≤ ends.start
  pub to_start : ends.start ≤ nodes
  pub from_end : 1 ≤ ends.end
  pub to_end : ends.end ≤ nodes

-- this tile, unless it is 0, and this item are put
abbrev pub puts : (put_tile put_item tile item : ℕ) → Bool
puts put_tile put_item tile item = not (tile == 0) && (put_tile == tile) && (put_item == item)
