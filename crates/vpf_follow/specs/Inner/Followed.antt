-- A coverage in which nothing disagrees in what follows its darts, with its home darts.
use Rattle.std.specs.Prelude.{◌≡◌, None, length}
use Rattle.vpf_prims.specs.Coverages.{CoverageTables}
use Rattle.vpf_follow.specs.declared.followed.Followed.TheInside.{Inside}
use Rattle.vpf_wing.specs.Links.{links_of}
use Rattle.vpf_prims.specs.Libraries.{in_tiles, library_of}
use Rattle.vpf_follow.specs.FollowLines.{follows_finding}
use Rattle.vpf_follow.specs.Inner.Homes.{AreHomes}

-- the coverage
abbrev pub followed_coverage : Inside → CoverageTables
followed_coverage f = f.coverage.now

-- nothing disagrees in what follows its darts, and these are its home darts, and how many darts there are
pub record IsFollowed (f : Inside) : Type 0 where
  pub agrees : in_tiles (follows_finding (links_of (library_of (followed_coverage f)))) (followed_coverage f) ≡ None
  pub kept : AreHomes (links_of (library_of (followed_coverage f))) (links_of (library_of (followed_coverage f))).darts f.homes
  pub count : f.darts ≡ length (links_of (library_of (followed_coverage f))).darts
