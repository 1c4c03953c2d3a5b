use Rattle.std.proofs.Common.{◌≡◌, ◌≢◌, ℕ, true, None, subst}
use Rattle.vpf_darts.specs.Darts.{sign_in}
use Rattle.vpf_darts.specs.Maps.{IsMap}
use Rattle.vpf_prims.specs.Coverages.{CoverageTables}
use Rattle.vpf_prims.specs.Libraries.{IsLibrary, library_of}
use Rattle.vpf_prims.specs.Numbering.{IsNumbered}
use Rattle.vpf_prims.specs.Primitives.{has_tables}
use Rattle.vpf_numbers.specs.TableLines.{coverage_numbers}
use Rattle.vpf_wing.specs.Links.{links_of}
use Rattle.vpf_follow.specs.Following.{is_home, library_map}
use Rattle.vpf_renumbering.proofs.glued_faces.JoinedLemmas.{cycles_hold}
use Rattle.vpf_renumbering.proofs.glued_faces.joined.faces_are_joined.Goals as goal

pub returns : goal.returns
returns c =
    let lib : IsLibrary (library_of c.args.checked.now) = subst (λ (v : CoverageTables). IsLibrary (library_of v)) c.coverage-coverage.ensures c.tiles_make_library.ensures in
    let none : coverage_numbers c.args.checked.now ≡ None = subst (λ (v : CoverageTables). coverage_numbers v ≡ None) c.coverage-coverage.ensures c.numbers_hold.ensures in
    let numbered : (t : ℕ) → has_tables (library_of c.args.checked.now) t ≡ true → IsNumbered (library_of c.args.checked.now) t =
    ((c.numbers_decide.ensures.coverage c.args.checked.now).0 none).1 in
    record {
      numbered = numbered;
      cycles = cycles_hold c.cycles_decide.ensures c.args.checked.now lib numbered c.topology_holds.ensures;
      is_map = subst (λ (v : CoverageTables). IsMap (library_map (links_of (library_of v)))) c.new.ensures c.makes_map.ensures.map;
      signs = subst (λ (v : CoverageTables). (d : ℕ) → is_home (links_of (library_of v)) d ≡ true → sign_in ((library_map (links_of (library_of v))).flip d) ≢ sign_in d)
          c.new.ensures c.makes_map.ensures.signs;
    }
