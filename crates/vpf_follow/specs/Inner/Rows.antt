-- What a row of edges says of its darts, and which of them are home darts, outside darts, or named by another dart.
use Rattle.std.specs.Prelude.{ℕ, Bool, not, ◌&&◌, ◌==◌, if◌then◌else◌, nat_le, Option, Some, None}
use Rattle.std.specs.Option.{option_eq}
use Rattle.vpf_triplet.specs.declared.triplets.Triplet.{Triplet}
use Rattle.vpf_prims.specs.declared.rows.EdgeRow.{EdgeRow}
use Rattle.vpf_prims.specs.Lists.{kth}
use Rattle.vpf_prims.specs.Primitives.{Library, absent_edge, edge_count, edge_row_of, tile_edges}
use Rattle.vpf_prims.specs.References.{id_of}
use Rattle.vpf_wing.specs.Links.{Beyond, link_of}
use Rattle.vpf_follow.specs.Following.{face_beyond, is_far_face, same_beyond}

-- the row of an edge, where its tile has it
abbrev pub edge_row_in : Library → ℕ → ℕ → Option EdgeRow
edge_row_in L t k = if nat_le 1 k && nat_le k (edge_count L t) then Some (edge_row_of (kth (tile_edges L t) k absent_edge)) else None

-- the wing of the + or - dart of a row
abbrev pub row_wing : Bool → EdgeRow → Triplet
row_wing minus row = if minus then row.left_edge else row.right_edge

-- its head node
abbrev pub row_node : Bool → EdgeRow → Triplet
row_node minus row = if minus then row.start_node else row.end_node

-- its face
abbrev pub row_face : Bool → EdgeRow → Triplet
row_face minus row = if minus then row.left_face else row.right_face

-- the dart of a row of tile t is a home dart that begins at this node and has the face of this name
abbrev pub row_is_named : ℕ → EdgeRow → Bool → ℕ → Option Beyond → Bool
row_is_named t row minus node face =
    not (is_far_face (link_of (row_face minus row)))
    && ((id_of (row_node (not minus) row) == node) && option_eq same_beyond (face_beyond t (link_of (row_face minus row))) face)
