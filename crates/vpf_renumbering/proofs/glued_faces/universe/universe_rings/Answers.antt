use Rattle.std.proofs.Common.{◌≡◌, ◌*◌, ◌≤◌, ◌∙◌, sym, ap, subst, length}
use Rattle.vpf_darts.specs.Cycles.{IsListing}
use Rattle.vpf_darts.specs.Listings.{numbers_of}
use Rattle.vpf_prims.specs.Coverages.{CoverageTables}
use Rattle.vpf_prims.specs.Libraries.{library_of}
use Rattle.vpf_wing.specs.Links.{links_of}
use Rattle.vpf_follow.specs.Following.{library_map}
use Rattle.vpf_tiling_laws.specs.Gluing.Glued.{plus_darts, universe_rings}
use Rattle.vpf_tiling_laws.specs.Gluing.Whole.{whole_of}
use Rattle.vpf_renumbering.specs.Inner.GluedFaces.Rings.{rings_glued}
use Rattle.vpf_renumbering.proofs.glued_faces.RingLemmas.{made_many}
use Rattle.vpf_renumbering.proofs.glued_faces.UniverseLemmas.{cycles_made, universe_few}
use Rattle.vpf_renumbering.proofs.glued_faces.universe.universe_rings.Goals as goal

pub returns-clause-rings : goal.returns-clause-rings
returns-clause-rings c =
    c.in_ok-rings.ensures.rings
    ∙ cycles_made c.leasts_begin_cycles.ensures (library_of c.args.checked.now) c.in_ok-darts.darts.items c.in_ok-darts.ensures (numbers_of c.in_ok-listing.listing)
    (subst (λ (v : CoverageTables). IsListing (library_map (links_of (library_of v))).next (library_map (links_of (library_of v))).live (numbers_of c.in_ok-listing.listing)) c.new-whole.ensures
    c.in_ok-listing.ensures)

pub returns-clause-few : goal.returns-clause-few
returns-clause-few c =
    let made : rings_glued (library_of c.args.checked.now) c.in_ok-rings.rings.items ≡ universe_rings (whole_of (library_of c.args.checked.now)) = returns-clause-rings c in
    let many : length (rings_glued (library_of c.args.checked.now) c.in_ok-rings.rings.items) ≡ length c.in_ok-rings.rings.items =
    made_many (library_of c.args.checked.now) c.in_ok-rings.rings.items in
    let same : length (rings_glued (library_of c.args.checked.now) c.in_ok-rings.rings.items) ≡ length (universe_rings (whole_of (library_of c.args.checked.now))) = ap length made in
    let few : length (universe_rings (whole_of (library_of c.args.checked.now))) ≤ 2 * length (plus_darts (whole_of (library_of c.args.checked.now))) =
    universe_few (library_of c.args.checked.now) c.faces_are_joined.ensures c.in_ok-darts.darts.items c.in_ok-darts.ensures in
    subst (λ n. n ≤ 2 * length (plus_darts (whole_of (library_of c.args.checked.now)))) (sym same ∙ many) few
