-- The mark of the edge of a dart of a tile.
use Rattle.std.proofs.Common.{◌≡◌, ℕ, zero, suc, ◌^◌, ◌<◌, Bool, false, Some, None, Option, ◌∷◌, length, refl, sym, ap, ◌∙◌, arith}
use Rattle.std.proofs.lemmas.List.{get_or_past}
use Rattle.vpf_darts.specs.declared.darts.TileDart.{TileDart}
use Rattle.vpf_darts.specs.Darts.{edge_in, sign_of, tile_dart_code, tile_in}
use Rattle.vpf_prims.specs.Coverages.{CoverageTables, tile_at}
use Rattle.vpf_prims.specs.Libraries.{library_of, primitives_in}
use Rattle.vpf_prims.specs.Lists.{kth}
use Rattle.vpf_prims.specs.Primitives.{EdgePrimitive, absent_edge, edges_in, is_tile_line, tile_edges}
use Rattle.vpf_prims.specs.Reading.{primitives_of}
use Rattle.vpf_prims.specs.Tables.{TileTables}
use Rattle.vpf_wing.specs.Inner.DartLaws.{code-edge, code-tile, sign-small}
use Rattle.vpf_trace.specs.Tracing.{is_on_line}

-- the mark of edge k, where a tile may have tables
abbrev line_in : Option TileTables → ℕ → Bool
line_in o k = is_tile_line (kth (edges_in (primitives_in o)) k absent_edge).mark

line_is : (c : CoverageTables) (d : TileDart) → d.edge < 2 ^ 32 → is_on_line (library_of c) (tile_dart_code d) ≡ line_in (tile_at c d.tile) d.edge
line_is c d few =
    let tile : tile_in (tile_dart_code d) ≡ d.tile = code-tile d.tile d.edge (sign_of d.minus) few (sign-small d.minus) in
    let edge : edge_in (tile_dart_code d) ≡ d.edge = code-edge d.tile d.edge (sign_of d.minus) few (sign-small d.minus) in
    ap (λ t. is_tile_line (kth (tile_edges (library_of c) t) (edge_in (tile_dart_code d)) absent_edge).mark) tile
    ∙ ap (λ k. is_tile_line (kth (tile_edges (library_of c) d.tile) k absent_edge).mark) edge

pub line_there : (c : CoverageTables) (d : TileDart) (T : TileTables) → d.edge < 2 ^ 32 → Some T ≡ tile_at c d.tile
    → is_tile_line (kth (primitives_of T.tables).edges d.edge absent_edge).mark ≡ is_on_line (library_of c) (tile_dart_code d)
line_there c d T few there = ap (λ o. line_in o d.edge) there ∙ sym (line_is c d few)

-- beyond its edges a tile has no line
pub line_past : (c : CoverageTables) (d : TileDart) (T : TileTables) → d.edge < 2 ^ 32 → Some T ≡ tile_at c d.tile → length (primitives_of T.tables).edges < d.edge
    → false ≡ is_on_line (library_of c) (tile_dart_code d)
line_past c d T few there past =
    ap (λ (e : EdgePrimitive). is_tile_line e.mark) (sym (get_or_past (absent_edge ∷ (primitives_of T.tables).edges) d.edge absent_edge past)) ∙ line_there c d T few there

pub line_zero : (c : CoverageTables) (d : TileDart) → d.edge < 2 ^ 32 → d.edge < 1 → false ≡ is_on_line (library_of c) (tile_dart_code d)
line_zero c d few low =
    let zero_edge : d.edge ≡ 0 = omega arith in
    sym (line_is c d few ∙ ap (line_in (tile_at c d.tile)) zero_edge)

no_line : (k : ℕ) → line_in None k ≡ false
no_line zero = refl
no_line (suc k) = refl

-- and an empty tile has none
pub line_nowhere : (c : CoverageTables) (d : TileDart) → d.edge < 2 ^ 32 → None ≡ tile_at c d.tile → false ≡ is_on_line (library_of c) (tile_dart_code d)
line_nowhere c d few none = sym (line_is c d few ∙ ap (λ o. line_in o d.edge) (sym none) ∙ no_line d.edge)
