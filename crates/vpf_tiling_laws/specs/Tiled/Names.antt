-- The map of a coverage with each dart called by its name in the tiles.
use Rattle.std.specs.Prelude.{ℕ, Bool, ◌&&◌, if◌then◌else◌, ◌==◌, nat_le, length}
use Rattle.vpf_darts.specs.Darts.{code, tile_in, edge_in, sign_in}
use Rattle.vpf_darts.specs.Maps.{DartMap}
use Rattle.vpf_prims.specs.Lists.{kth}
use Rattle.vpf_prims.specs.Primitives.{Primitives}
use Rattle.vpf_tiling.specs.Presence.{home, present_edges, dart_name}

-- the dart of the coverage whose copy in a tile has this number
abbrev pub dart_behind : Primitives → (ℕ → ℕ) → ℕ → ℕ
dart_behind c plan x = code 0 (kth (present_edges c plan (tile_in x)) (edge_in x) 0) (sign_in x)

-- the number is the name of a dart
abbrev pub is_name : Primitives → (ℕ → ℕ) → ℕ → Bool
is_name c plan x =
    nat_le 1 (edge_in x) && nat_le (edge_in x) (length (present_edges c plan (tile_in x))) && (home c plan (dart_behind c plan x) == tile_in x)

-- a map of the darts of a coverage with each dart called by its name
abbrev pub named_map : Primitives → (ℕ → ℕ) → DartMap → DartMap
named_map c plan m = record {
  has = is_name c plan;
  next = λ x. if is_name c plan x then dart_name c plan (m.next (dart_behind c plan x)) else x;
  flip = λ x. if is_name c plan x then dart_name c plan (m.flip (dart_behind c plan x)) else x;
  live = λ x. is_name c plan x && m.live (dart_behind c plan x);
}
