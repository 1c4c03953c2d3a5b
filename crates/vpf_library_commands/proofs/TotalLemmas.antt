-- The numbers of primitives in the tiles of a coverage, summed tile by tile.
use Rattle.std.proofs.Common.{◌≡◌, ℕ, length}
use Rattle.vpf_prims.specs.Primitives.{Library, edge_count, face_count, node_count, tile_entities}
use Rattle.vpf_library_commands.specs.declared.totals.Totals.{Totals}
use Rattle.vpf_library_commands.specs.Counting.{AreFew, before}

-- these are the numbers of all tiles before this one
pub record AreBefore (L : Library) (t : ℕ) (n : Totals) : Type 0 where
  pub edges : n.edges ≡ before (edge_count L) t
  pub faces : n.faces ≡ before (face_count L) t
  pub nodes : n.nodes ≡ before (node_count L) t
  pub entities : n.entities ≡ before (λ t. length (tile_entities L t)) t
  pub few : AreFew t n
