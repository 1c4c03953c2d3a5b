-- The row of the edge of a dart of a coverage, and the face that it names.
use Rattle.std.proofs.Common.{◌≡◌, ℕ, ◌^◌, ◌<◌, ◌≤◌, Bool, Some, None, ap, ◌∙◌, subst, arith, length}
use Rattle.vpf_darts.specs.declared.darts.TileDart.{TileDart}
use Rattle.vpf_darts.specs.Darts.{edge_in, tile_dart_code}
use Rattle.vpf_prims.specs.Coverages.{CoverageTables, tile_at}
use Rattle.vpf_prims.specs.Libraries.{library_of, primitives_in}
use Rattle.vpf_prims.specs.Lists.{kth}
use Rattle.vpf_prims.specs.Numbering.{IsRowOf}
use Rattle.vpf_prims.specs.Primitives.{absent_edge, edge_count, edges_in}
use Rattle.vpf_prims.specs.Reading.{primitives_of}
use Rattle.vpf_prims.specs.Tables.{TileTables}
use Rattle.vpf_wing.specs.Inner.DartLaws.{IsThere, has-there, minus-code}
use Rattle.vpf_wing.specs.Links.{face_by, is_minus, link_of, links_of}
use Rattle.vpf_follow.specs.Following.{face_beyond, face_name}
use Rattle.vpf_follow.specs.Inner.Homes.{IsDartIn}
use Rattle.vpf_renumbering.specs.Inner.GluedEdges.FaceLaws.{tile_is, edge_is}

-- the edge of a dart of the coverage is one of its tile
there : (c : CoverageTables) (d : TileDart) → d.edge < 2 ^ 32 → IsDartIn c d → IsRowOf (edge_count (library_of c) d.tile) d.edge
there c d few h =
    let i : IsThere (library_of c) (tile_dart_code d) = has-there (library_of c) (tile_dart_code d) h in
    let low : 1 ≤ d.edge = subst (λ k. 1 ≤ k) (edge_is d few) i.from_one in
    let high : d.edge ≤ edge_count (library_of c) d.tile =
    subst (λ k. k ≤ edge_count (library_of c) d.tile) (edge_is d few)
    (subst (λ t. edge_in (tile_dart_code d) ≤ edge_count (library_of c) t) (tile_is d few) i.to_count) in
    (low, high)

pub row_there : (c : CoverageTables) (d : TileDart) (T : TileTables) → d.edge < 2 ^ 32 → IsDartIn c d → tile_at c d.tile ≡ Some T
    → IsRowOf (length (primitives_of T.tables).edges) d.edge
row_there c d T few h is = subst (λ o. IsRowOf (length (edges_in (primitives_in o))) d.edge) is (there c d few h)

-- so its tile has tables
pub tables_there : (c : CoverageTables) (d : TileDart) → d.edge < 2 ^ 32 → IsDartIn c d → tile_at c d.tile ≡ None → ⊥
tables_there c d few h none =
    let i = subst (λ o. IsRowOf (length (edges_in (primitives_in o))) d.edge) none (there c d few h) in
    let low : 1 ≤ d.edge = i.0 in
    let high : d.edge ≤ 0 = i.1 in
    absurd (omega arith)

-- the face of a dart is the one that its row names
pub face_there : (c : CoverageTables) (d : TileDart) (m : Bool) (T : TileTables) → d.edge < 2 ^ 32 → d.minus ≡ m → tile_at c d.tile ≡ Some T
    → face_name (links_of (library_of c)) (tile_dart_code d) ≡ face_beyond d.tile (link_of (face_by m (kth (primitives_of T.tables).edges d.edge absent_edge)))
face_there c d m T few minus is =
    let x : ℕ = tile_dart_code d in
    let sign : is_minus (tile_dart_code d) ≡ m = minus-code d.tile d.edge d.minus ∙ minus in
    ap (λ t. face_beyond t (link_of (face_by (is_minus x) (kth (edges_in (primitives_in (tile_at c t))) (edge_in x) absent_edge)))) (tile_is d few)
    ∙ ap (λ k. face_beyond d.tile (link_of (face_by (is_minus x) (kth (edges_in (primitives_in (tile_at c d.tile))) k absent_edge)))) (edge_is d few)
    ∙ ap (λ b. face_beyond d.tile (link_of (face_by b (kth (edges_in (primitives_in (tile_at c d.tile))) d.edge absent_edge)))) sign
    ∙ ap (λ o. face_beyond d.tile (link_of (face_by m (kth (edges_in (primitives_in o)) d.edge absent_edge)))) is
