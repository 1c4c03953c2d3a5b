-- What is counted of a coverage and of a listing.
use Rattle.std.specs.Prelude.{ℕ, ◌+◌, max, List, [], ◌∷◌, length, filter}
use Rattle.vpf_darts.specs.declared.darts.TileDart.{TileDart}
use Rattle.vpf_prims.specs.Primitives.{EdgePrimitive, Library, is_tile_line, tile_edges}

-- how many of these edges are lines between tiles
abbrev pub lines_in : List EdgePrimitive → ℕ
lines_in edges = length (filter (λ e. is_tile_line e.mark) edges)

-- how many edges of an untiled coverage are
abbrev pub line_count : Library → ℕ
line_count L = lines_in (tile_edges L 0)

-- how many darts some cycles have in all
abbrev pub dart_count : List (List TileDart) → ℕ
dart_count [] = 0
dart_count (cycle ∷ cycles) = length cycle + dart_count cycles

-- how many darts the longest has
abbrev pub longest : List (List TileDart) → ℕ
longest [] = 0
longest (cycle ∷ cycles) = max (length cycle) (longest cycles)
