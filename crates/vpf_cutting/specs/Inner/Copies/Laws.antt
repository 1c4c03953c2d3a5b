-- What is so of the items of tiles, wherever they are.
use Rattle.std.specs.Prelude.{◌≡◌, ℕ, ◌≤◌, length, Some}
use Rattle.vpf_prims.specs.Lists.{kth}
use Rattle.vpf_cutting.specs.Inner.Copies.Presence.{Presence, items_in, local_number}

-- the item at a place in the list of a tile has this place as its local number
abbrev pub PlacesAreLocals : Type 0
PlacesAreLocals = (p : Presence) (tile k : ℕ) → 1 ≤ k → k ≤ length (items_in p tile) → local_number p tile (kth (items_in p tile) k 0) ≡ Some k

-- an item that has a local number stands at this place
abbrev pub LocalsArePlaces : Type 0
LocalsArePlaces = (p : Presence) (tile item k : ℕ) → 1 ≤ item → item ≤ p.items → local_number p tile item ≡ Some k → kth (items_in p tile) k 0 ≡ item
