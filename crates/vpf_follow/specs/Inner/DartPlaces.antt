-- Where darts stand first in a list, by their tiles, edges and signs.
use Rattle.std.specs.Prelude.{◌≡◌, ℕ, ◌+◌, ◌*◌, List, [], Option, Some, None, get_or, position}
use Rattle.vpf_darts.specs.declared.darts.TileDart.{TileDart}
use Rattle.vpf_darts.specs.contracts.darts.TileDartPartialEq.TheImpl.{eq-value}
use Rattle.vpf_darts.specs.Darts.{sign_of}

-- where a dart stands among those of its tile
abbrev pub place_in_tile : TileDart → ℕ
place_in_tile dart = 2 * dart.edge + sign_of dart.minus

-- what is counted of a dart, tile by tile
abbrev pub count_for : List (List ℕ) → TileDart → ℕ
count_for tiles dart = get_or (get_or tiles dart.tile []) (place_in_tile dart) 0

-- a place as it is counted: from 1, and 0 where there is none
abbrev pub counted_place : Option ℕ → ℕ
counted_place None = 0
counted_place (Some place) = place + 1

-- the first place of each dart of a list is counted
abbrev pub HoldPlaces : List TileDart → List (List ℕ) → Type 0
HoldPlaces darts tiles = (dart : TileDart) → count_for tiles dart ≡ counted_place (position ((eq-value).it dart) darts)
