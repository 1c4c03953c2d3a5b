-- What is so of the tiles of every coverage: nothing is found exactly where they agree.
use Rattle.std.specs.Prelude.{◌≡◌, ◌↔◌, ℕ, true, Some, None}
use Rattle.vpf_prims.specs.Primitives.{Library}
use Rattle.vpf_prims.specs.Coverages.{CoverageTables}
use Rattle.vpf_wing.specs.Links.{DartLinks, links_of}
use Rattle.vpf_wing.specs.WellFormed.{HasLoops}
use Rattle.vpf_wing.specs.CycleLines.{loops_finding}
use Rattle.vpf_prims.specs.Libraries.{library_of, in_tiles}
use Rattle.vpf_follow.specs.Inner.Homes.{HasFewEdges}
use Rattle.vpf_follow.specs.Following.{is_home, follow, home_copy}
use Rattle.vpf_follow.specs.Sided.{HasSides, HasFollowers}
use Rattle.vpf_follow.specs.SideLines.{sides_finding}
use Rattle.vpf_follow.specs.FollowLines.{follows_finding}

-- there is no finding on the sides of edges exactly where they name tiles as they should
abbrev pub SidesDecide : Type 0
SidesDecide = (c : CoverageTables) → HasFewEdges (library_of c) → (in_tiles sides_finding c ≡ None) ↔ HasSides (links_of (library_of c))

-- there is no finding on what follows darts exactly where each is followed, and no two home darts by the same
abbrev pub FollowersDecide : Type 0
FollowersDecide = (c : CoverageTables) → HasFewEdges (library_of c)
    → (in_tiles (follows_finding (links_of (library_of c))) c ≡ None) ↔ HasFollowers (links_of (library_of c))

-- there is no finding on the loops of the tiles of a coverage exactly where they have two faces
abbrev pub TileLoopsDecide : Type 0
TileLoopsDecide = (c : CoverageTables) → HasFewEdges (library_of c) → (in_tiles loops_finding c ≡ None) ↔ HasLoops (links_of (library_of c))

-- what follows a dart is a home dart
abbrev pub FollowersAreHome : Type 0
FollowersAreHome = (C : DartLinks) (d e : ℕ) → follow C d ≡ Some e → is_home C e ≡ true

-- e is a home dart that is followed by the same dart as d
pub record IsHomeCopy (C : DartLinks) (d e : ℕ) : Type 0 where
  pub home : is_home C e ≡ true
  pub follows : follow C e ≡ follow C d

-- each dart has a home copy
abbrev pub HomesExist : Type 0
HomesExist = (L : Library) → HasFollowers (links_of L) → (d : ℕ) → (links_of L).has d ≡ true → IsHomeCopy (links_of L) d (home_copy (links_of L) d)
