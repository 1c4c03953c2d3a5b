-- What the copies of a dart stand on.
use Rattle.std.specs.Prelude.{◌≡◌, ◌≢◌, ℕ, true, Some, None}
use Rattle.vpf_darts.specs.Darts.{tile_in}
use Rattle.vpf_prims.specs.Coverages.{CoverageTables}
use Rattle.vpf_wing.specs.Links.{DartLinks}
use Rattle.vpf_follow.specs.Following.{beyond_tile, is_outside}
use Rattle.vpf_follow.specs.Inner.Homes.{HasFewEdges}
use Rattle.vpf_prims.specs.Libraries.{in_tiles, library_of}
use Rattle.vpf_cross.specs.HomeLines.{coverage_links, homes_finding}

-- a face of another tile is in another tile
abbrev pub FacesAreElsewhere : DartLinks → Type 0
FacesAreElsewhere C = (d : ℕ) → is_outside C d ≡ true → beyond_tile (C.face d).out ≢ Some (tile_in d)

-- nothing disagrees in the home copies of a coverage, whose tiles have few edges and faces of other tiles alone
pub record HomesAgree (c : CoverageTables) : Type 0 where
  pub few : HasFewEdges (library_of c)
  pub elsewhere : FacesAreElsewhere (coverage_links c)
  pub homes : in_tiles (homes_finding c) c ≡ None
