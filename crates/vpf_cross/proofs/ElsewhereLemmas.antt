-- Faces of other tiles are in other tiles.
use Rattle.std.proofs.Common.{◌≡◌, ℕ, Option, Some, None, refl}
use Rattle.vpf_darts.specs.Darts.{tile_in, edge_in}
use Rattle.vpf_prims.specs.Coverages.{CoverageTables}
use Rattle.vpf_prims.specs.Libraries.{library_of}
use Rattle.vpf_prims.specs.Primitives.{face_count}
use Rattle.vpf_wing.specs.Links.{Beyond, edge_of_dart, face_by, is_minus}
use Rattle.vpf_follow.specs.Following.{beyond_tile}
use Rattle.vpf_cross.specs.Inner.Copies.{FacesAreElsewhere}
use Rattle.vpf_cross.specs.HomeLines.{coverage_links}
use Rattle.vpf_cross.specs.Inner.Laws.{AreNumbered}
use Rattle.vpf_cross.proofs.AgreeLemmas.{is_there}
use Rattle.vpf_follow.specs.Inner.FollowLaws.{outside_has}
use Rattle.vpf_cross.proofs.LawNumbered.{GoesOn, dart_row, face_named, face_on}

beyond_some : (o : Option Beyond) (t : ℕ) → beyond_tile o ≡ Some t → (p : Beyond) × (o ≡ Some p) × (p.tile ≡ t)
beyond_some None t e = absurd cc
beyond_some (Some p) t e = let same : p.tile ≡ t = cc in (p, refl, same)

pub faces_elsewhere : (c : CoverageTables) → AreNumbered (library_of c) → FacesAreElsewhere (coverage_links c)
faces_elsewhere c numbered d outside out =
    let L = library_of c in
    let C = coverage_links c in
    let has = outside_has C d outside in
    let i = is_there c d has in
    let row = dart_row c numbered d has i.tables i.tile in
    let p = beyond_some (C.face d).out (tile_in d) out in
    let on : GoesOn L (face_count L) (tile_in d) (face_by (is_minus d) (edge_of_dart L d)) p.0 = face_on L (tile_in d) (face_by (is_minus d) (edge_of_dart L d)) p.0 (face_named L (tile_in d) (edge_in d) (edge_of_dart L d) (is_minus d) row) p.1 in
    on.other p.2
