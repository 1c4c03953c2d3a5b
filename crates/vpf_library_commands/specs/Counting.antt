-- How many primitives a coverage has in all its tiles.
use Rattle.std.specs.Prelude.{◌≡◌, ℕ, zero, suc, ◌+◌, ◌*◌, ◌≤◌, ◌^◌, length}
use Rattle.vpf_prims.specs.Coverages.{CoverageTables, last_tile}
use Rattle.vpf_prims.specs.Libraries.{library_of}
use Rattle.vpf_prims.specs.Primitives.{Library, edge_count, face_count, node_count, tile_entities}
use Rattle.vpf_library_commands.specs.declared.totals.Totals.{Totals}

-- what a count comes to over all tiles before this one
abbrev pub before : (ℕ → ℕ) → ℕ → ℕ
before count zero = 0
before count (suc t) = before count t + count t

-- over all tiles of a coverage, by their numbers; an empty tile counts nothing
abbrev pub over_tiles : (ℕ → ℕ) → CoverageTables → ℕ
over_tiles count c = before count (last_tile c + 1)

-- its edges
abbrev pub all_edges : CoverageTables → ℕ
all_edges c = over_tiles (edge_count (library_of c)) c

-- its faces, the universe counted in each tile
abbrev pub all_faces : CoverageTables → ℕ
all_faces c = over_tiles (face_count (library_of c)) c

-- its connected nodes
abbrev pub all_nodes : CoverageTables → ℕ
all_nodes c = over_tiles (node_count (library_of c)) c

-- its entity nodes
abbrev pub all_entities : CoverageTables → ℕ
all_entities c = over_tiles (λ t. length (tile_entities (library_of c) t)) c

-- these are the numbers of primitives of a tile
pub record AreCounts (L : Library) (t : ℕ) (n : Totals) : Type 0 where
  pub edges : n.edges ≡ edge_count L t
  pub faces : n.faces ≡ face_count L t
  pub nodes : n.nodes ≡ node_count L t
  pub entities : n.entities ≡ length (tile_entities L t)

-- these are those of all tiles of a coverage
pub record AreTotals (c : CoverageTables) (n : Totals) : Type 0 where
  pub edges : n.edges ≡ all_edges c
  pub faces : n.faces ≡ all_faces c
  pub nodes : n.nodes ≡ all_nodes c
  pub entities : n.entities ≡ all_entities c

-- they are no more than so many tiles may have
pub record AreFew (tiles : ℕ) (n : Totals) : Type 0 where
  pub edges : n.edges ≤ tiles * 2 ^ 24
  pub faces : n.faces ≤ tiles * 2 ^ 24
  pub nodes : n.nodes ≤ tiles * 2 ^ 24
  pub entities : n.entities ≤ tiles * 2 ^ 24
