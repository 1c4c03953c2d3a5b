-- The number of the face of a dart of a tile.
use Rattle.std.proofs.Common.{◌≡◌, ℕ, zero, suc, ◌^◌, ◌<◌, Bool, true, false, None, Option, Some, ◌∷◌, length, refl, sym, ap, ◌∙◌, arith}
use Rattle.std.proofs.lemmas.List.{get_or_past}
use Rattle.vpf_darts.specs.declared.darts.TileDart.{TileDart}
use Rattle.vpf_darts.specs.Darts.{edge_in, sign_of, tile_dart_code, tile_in}
use Rattle.vpf_prims.specs.Coverages.{CoverageTables, tile_at}
use Rattle.vpf_prims.specs.Libraries.{library_of, primitives_in}
use Rattle.vpf_prims.specs.Lists.{kth}
use Rattle.vpf_prims.specs.Primitives.{EdgePrimitive, absent_edge, edge_row_of, edges_in, tile_edges}
use Rattle.vpf_prims.specs.Reading.{primitives_of}
use Rattle.vpf_prims.specs.References.{id_of}
use Rattle.vpf_prims.specs.Tables.{TileTables}
use Rattle.vpf_wing.specs.Inner.DartLaws.{code-edge, code-tile, minus-code, sign-small}
use Rattle.vpf_wing.specs.Links.{face_by, is_minus, links_of}
use Rattle.vpf_follow.specs.Inner.Rows.{row_face}

-- the face of the + or - dart of edge k, where a tile may have tables
abbrev face_in : Option TileTables → ℕ → Bool → ℕ
face_in o k minus = id_of (face_by minus (kth (edges_in (primitives_in o)) k absent_edge))

abbrev pub dart_face : CoverageTables → TileDart → ℕ
dart_face c d = ((links_of (library_of c)).face (tile_dart_code d)).id

face_is : (c : CoverageTables) (d : TileDart) → d.edge < 2 ^ 32 → dart_face c d ≡ face_in (tile_at c d.tile) d.edge d.minus
face_is c d few =
    let tile : tile_in (tile_dart_code d) ≡ d.tile = code-tile d.tile d.edge (sign_of d.minus) few (sign-small d.minus) in
    let edge : edge_in (tile_dart_code d) ≡ d.edge = code-edge d.tile d.edge (sign_of d.minus) few (sign-small d.minus) in
    let minus : is_minus (tile_dart_code d) ≡ d.minus = minus-code d.tile d.edge d.minus in
    ap (λ t. id_of (face_by (is_minus (tile_dart_code d)) (kth (tile_edges (library_of c) t) (edge_in (tile_dart_code d)) absent_edge))) tile
    ∙ ap (λ k. id_of (face_by (is_minus (tile_dart_code d)) (kth (tile_edges (library_of c) d.tile) k absent_edge))) edge
    ∙ ap (λ m. id_of (face_by m (kth (tile_edges (library_of c) d.tile) d.edge absent_edge))) minus

by_row : (m : Bool) (e : EdgePrimitive) → id_of (row_face m (edge_row_of e)) ≡ id_of (face_by m e)
by_row true e = refl
by_row false e = refl

pub face_there : (c : CoverageTables) (d : TileDart) (T : TileTables) → d.edge < 2 ^ 32 → Some T ≡ tile_at c d.tile
    → id_of (row_face d.minus (edge_row_of (kth (primitives_of T.tables).edges d.edge absent_edge))) ≡ dart_face c d
face_there c d T few there =
    by_row d.minus (kth (primitives_of T.tables).edges d.edge absent_edge) ∙ ap (λ o. face_in o d.edge d.minus) there ∙ sym (face_is c d few)

no_face_by : (m : Bool) → id_of (face_by m absent_edge) ≡ 0
no_face_by true = refl
no_face_by false = refl

-- beyond its edges a tile has no face
pub face_past : (c : CoverageTables) (d : TileDart) (T : TileTables) → d.edge < 2 ^ 32 → Some T ≡ tile_at c d.tile → length (primitives_of T.tables).edges < d.edge
    → 0 ≡ dart_face c d
face_past c d T few there past =
    sym (face_is c d few ∙ ap (λ o. face_in o d.edge d.minus) (sym there)
    ∙ ap (λ (e : EdgePrimitive). id_of (face_by d.minus e)) (get_or_past (absent_edge ∷ (primitives_of T.tables).edges) d.edge absent_edge past) ∙ no_face_by d.minus)

pub face_zero : (c : CoverageTables) (d : TileDart) → d.edge < 2 ^ 32 → d.edge < 1 → 0 ≡ dart_face c d
face_zero c d few low =
    let zero_edge : d.edge ≡ 0 = omega arith in
    sym (face_is c d few ∙ ap (λ k. face_in (tile_at c d.tile) k d.minus) zero_edge ∙ no_face_by d.minus)

no_face_in : (k : ℕ) (m : Bool) → face_in None k m ≡ 0
no_face_in zero m = no_face_by m
no_face_in (suc k) m = no_face_by m

-- and an empty tile has none
pub face_nowhere : (c : CoverageTables) (d : TileDart) → d.edge < 2 ^ 32 → None ≡ tile_at c d.tile → 0 ≡ dart_face c d
face_nowhere c d few none = sym (face_is c d few ∙ ap (λ o. face_in o d.edge d.minus) (sym none) ∙ no_face_in d.edge d.minus)
