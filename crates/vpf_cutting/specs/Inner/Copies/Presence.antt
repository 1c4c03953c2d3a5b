-- Which items are in which tiles, and their numbers there.
use Rattle.std.specs.Prelude.{◌≡◌, ℕ, ◌<◌, ◌^◌, Bool, ◌==◌, if◌then◌else◌, List, [], Option, Some, None, filter, count_by}
use Rattle.std.specs.List.{list_any, range_with_len}
use Rattle.vpf_cutting.specs.Inner.Copies.Lists.{list_at, lists_by}

-- so many items and so many tiles, both numbered from 1, and the items of each tile; the list of 0 is empty
pub record Presence : Type 0 where
  pub items : ℕ
  pub tiles : ℕ
  pub lists : List (List ℕ)

abbrev pub is_one_of : List ℕ → ℕ → Bool
is_one_of xs x = list_any (λ y. y == x) xs

-- whether a tile has an item
abbrev pub has : Presence → (tile item : ℕ) → Bool
has p tile item = is_one_of (list_at p.lists tile) item

-- the items are in the tiles where a test of a tile and an item says so
abbrev pub presence_of : (items tiles : ℕ) → (ℕ → ℕ → Bool) → Presence
presence_of items tiles test = record { items = items; tiles = tiles; lists = lists_by tiles items test }

-- the items of a tile: of all items, rising, those that it has
abbrev pub items_in : Presence → ℕ → List ℕ
items_in p tile = filter (has p tile) (range_with_len 1 p.items)

-- the tiles of an item: of all tiles, rising, those that have it
abbrev pub tiles_of : Presence → ℕ → List ℕ
tiles_of p item = filter (λ tile. has p tile item) (range_with_len 1 p.tiles)

-- how many of the numbers from 1 to this one pass a test
abbrev pub rank_up_to : (ℕ → Bool) → ℕ → ℕ
rank_up_to test k = count_by test (range_with_len 1 k)

-- the local number of an item in a tile, its rank among the items of the tile; none where it isn't there
abbrev pub local_number : Presence → (tile item : ℕ) → Option ℕ
local_number p tile item = if has p tile item then Some (rank_up_to (has p tile) item) else None

-- the lists of a presence are those of the items that each tile has, and these are the lists of the tiles that have each item
pub record AreCopies (p : Presence) (by_item : List (List ℕ)) : Type 0 where
  pub few : p.items < 2 ^ 32
  pub by_tile : p.lists ≡ lists_by p.tiles p.items (has p)
  pub turned : by_item ≡ lists_by p.items p.tiles (λ item tile. has p tile item)
  pub none : list_at p.lists 0 ≡ []
