-- The darts that a walk keeps, in their order, and their ranks by it.
use Rattle.std.specs.Prelude.{◌≡◌, ℕ, suc, ◌<◌, ◌^◌, All, ◌==◌, if◌then◌else◌, List, [], ◌∷◌, length, map, nat_lt, slice_index}
use Rattle.std.specs.List.Sorted.{IsStrictlyIncreasing}
use Rattle.vpf_darts.specs.declared.darts.TileDart.{TileDart}
use Rattle.vpf_darts.specs.Darts.{tile_dart_code}
use Rattle.vpf_darts.specs.Maps.{AreEdges, DartMap, IsMap, without}
use Rattle.vpf_wing.specs.Inner.DartLaws.{stands_in}

-- the darts rise, and their edges have numbers of 32 bits
pub record AreInOrder (darts : List TileDart) : Type 0 where
  pub small : All (λ d. d.edge < 2 ^ 32) darts
  pub rise : IsStrictlyIncreasing (map tile_dart_code darts)

-- these are the darts of a map without some of its edges, in their order
pub record AreKept (m : DartMap) (passed : List ℕ) (darts : List TileDart) : Type 0 where
  pub is_map : IsMap m
  pub edges : AreEdges m passed
  pub in_order : AreInOrder darts
  pub kept : (d : ℕ) → stands_in d (map tile_dart_code darts) ≡ (without m passed).live d

-- the place of a number in a list, from 0
abbrev pub place_among : List ℕ → ℕ → ℕ
place_among [] x = 0
place_among (y ∷ ys) x = if x == y then 0 else suc (place_among ys x)

-- the rank of the next of the dart of a rank, and the rank itself where no dart has it
unfoldable pub next_rank : DartMap → List ℕ → ℕ → ℕ
next_rank m darts rank = if nat_lt rank (length darts) then place_among darts (m.next (slice_index darts rank)) else rank
