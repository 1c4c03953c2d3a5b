-- A coverage in whose topology nothing disagrees.
use Rattle.std.specs.Prelude.{◌≡◌, true, false, Option, Some, None}
use Rattle.vpf_prims.specs.Coverages.{CoverageTables}
use Rattle.vpf_cross.specs.declared.checking.Checked.TheInside.{Inside}
use Rattle.vpf_cross.specs.CrossFinding.{topology_finding}

-- the coverage
abbrev pub checked_coverage : Inside → CoverageTables
checked_coverage c = c.coverage.now

-- what follows the darts of a tiled coverage is kept, and nothing for one that isn't tiled
abbrev pub KeepsFollowed : CoverageTables → Option CoverageTables → Type 0
KeepsFollowed c None = c.is_tiled ≡ false
KeepsFollowed c (Some followed) = (c.is_tiled ≡ true) × (followed ≡ c)

-- nothing disagrees in its topology
pub record IsChecked (c : Inside) : Type 0 where
  pub agrees : topology_finding (checked_coverage c) ≡ None
  pub followed : KeepsFollowed (checked_coverage c) c.followed
