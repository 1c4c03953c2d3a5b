use Rattle.std.proofs.Common.{◌≡◌, ◌≢◌, ℕ, true, subst}
use Rattle.vpf_darts.specs.Darts.{sign_in}
use Rattle.vpf_darts.specs.Maps.{IsMap}
use Rattle.vpf_prims.specs.Coverages.{CoverageTables}
use Rattle.vpf_prims.specs.Libraries.{library_of}
use Rattle.vpf_wing.specs.Links.{links_of}
use Rattle.vpf_follow.specs.Following.{is_home, library_map}
use Rattle.vpf_trace.specs.Inner.LineLaws.{library_is_map}
use Rattle.vpf_renumbering.proofs.whole.SignLemmas.{two_signs}
use Rattle.vpf_renumbering.proofs.whole.walking.WholeMap.makes_map.Goals as goal

pub returns-clause-map : goal.returns-clause-map
returns-clause-map c =
    subst (λ (v : CoverageTables). IsMap (library_map (links_of (library_of v)))) c.self.view_is
    (library_is_map c.homes_exist.ensures (library_of c.self.inside.checked.now) c.self.invariant)

pub returns-clause-signs : goal.returns-clause-signs
returns-clause-signs c =
    subst (λ (v : CoverageTables). (d : ℕ) → is_home (links_of (library_of v)) d ≡ true → sign_in ((library_map (links_of (library_of v))).flip d) ≢ sign_in d)
    c.self.view_is (two_signs (library_of c.self.inside.checked.now) c.self.invariant)
