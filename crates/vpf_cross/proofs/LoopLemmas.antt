-- Loops over the edges of a tile, and over the tiles of a coverage, that stop at the first finding.
use Rattle.std.proofs.Common.{◌≡◌, ℕ, zero, suc, ◌+◌, ◌-◌, ◌<◌, ◌≤◌, Option, Some, None, length, refl, sym, ap, ◌∙◌, arith}
use Rattle.vpf_findings.specs.Findings.{Disagreement}
use Rattle.vpf_findings.specs.Firsts.{first_over}
use Rattle.vpf_findings.specs.Inner.FirstLaws.{over_pass, over_stop, over_end, over_none}
use Rattle.vpf_prims.specs.Coverages.{CoverageTables, tile_at, last_tile}
use Rattle.vpf_prims.specs.Reading.{primitives_of}
use Rattle.vpf_prims.specs.Tables.{TileTables}
use Rattle.vpf_prims.specs.Libraries.{in_tile, in_tiles}
use Rattle.vpf_follow.specs.Libraries.{over_edges}

-- what some lines say of the edges behind edge k
abbrev pub edges_left : (ℕ → Option Disagreement) → ℕ → TileTables → Option Disagreement
edges_left lines k T = first_over (λ i. lines (i + 1)) k (length (primitives_of T.tables).edges - k)

pub all_edges : (lines : ℕ → Option Disagreement) (T : TileTables) → edges_left lines 0 T ≡ over_edges lines T
unfolding over_edges
all_edges lines T = let e : length (primitives_of T.tables).edges - 0 ≡ length (primitives_of T.tables).edges = omega arith in rw e refl

pub pass_edge : (lines : ℕ → Option Disagreement) (k : ℕ) (T : TileTables) → k < length (primitives_of T.tables).edges → lines (k + 1) ≡ None
    → edges_left lines (k + 1) T ≡ edges_left lines k T
pass_edge lines k T h none = over_pass (λ i. lines (i + 1)) k (length (primitives_of T.tables).edges) h none

pub stop_edge : (lines : ℕ → Option Disagreement) (k : ℕ) (T : TileTables) (f : Disagreement) → k < length (primitives_of T.tables).edges → lines (k + 1) ≡ Some f
    → edges_left lines k T ≡ Some f
stop_edge lines k T f h some = over_stop (λ i. lines (i + 1)) k (length (primitives_of T.tables).edges) f h some

pub end_edges : (lines : ℕ → Option Disagreement) (k : ℕ) (T : TileTables) → length (primitives_of T.tables).edges ≤ k → edges_left lines k T ≡ None
end_edges lines k T h = over_end (λ i. lines (i + 1)) k (length (primitives_of T.tables).edges) h

pub ruleset edge_rules = (all_edges, pass_edge, stop_edge, end_edges)

-- no finding in the edges of a tile: none in any
pub no_edge : (lines : ℕ → Option Disagreement) (T : TileTables) → over_edges lines T ≡ None → (k : ℕ) → 1 ≤ k → k ≤ length (primitives_of T.tables).edges → lines k ≡ None
unfolding over_edges
no_edge lines T none zero low high = absurd (omega arith)
no_edge lines T none (suc k) low high =
    let e : k + 1 ≡ suc k = omega arith in
    ap lines (sym e) ∙ over_none (λ i. lines (i + 1)) 0 (length (primitives_of T.tables).edges) none k (omega arith) (omega arith)

-- what a rule says of the tiles from t on
abbrev pub tiles_left : (ℕ → TileTables → Option Disagreement) → ℕ → CoverageTables → Option Disagreement
tiles_left rule t c = first_over (λ t. in_tile (rule t) (tile_at c t)) t (last_tile c + 1 - t)

pub all_tiles : (rule : ℕ → TileTables → Option Disagreement) (c : CoverageTables) → tiles_left rule 0 c ≡ in_tiles rule c
unfolding in_tiles
all_tiles rule c = let e : last_tile c + 1 - 0 ≡ last_tile c + 1 = omega arith in rw e refl

pub pass_tile : (rule : ℕ → TileTables → Option Disagreement) (t : ℕ) (c : CoverageTables) → t < last_tile c + 1 → in_tile (rule t) (tile_at c t) ≡ None
    → tiles_left rule (t + 1) c ≡ tiles_left rule t c
pass_tile rule t c h none = over_pass (λ t. in_tile (rule t) (tile_at c t)) t (last_tile c + 1) h none

pub stop_tile : (rule : ℕ → TileTables → Option Disagreement) (t : ℕ) (c : CoverageTables) (f : Disagreement) → t < last_tile c + 1
    → in_tile (rule t) (tile_at c t) ≡ Some f → tiles_left rule t c ≡ Some f
stop_tile rule t c f h some = over_stop (λ t. in_tile (rule t) (tile_at c t)) t (last_tile c + 1) f h some

pub end_tiles : (rule : ℕ → TileTables → Option Disagreement) (t : ℕ) (c : CoverageTables) → last_tile c + 1 ≤ t → tiles_left rule t c ≡ None
end_tiles rule t c h = over_end (λ t. in_tile (rule t) (tile_at c t)) t (last_tile c + 1) h

-- what it says of a tile with tables
pub in_tile_at : (rule : ℕ → TileTables → Option Disagreement) (t : ℕ) (c : CoverageTables) (T : TileTables) → tile_at c t ≡ Some T → in_tile (rule t) (tile_at c t) ≡ rule t T
in_tile_at rule t c T e = rw e refl

pub in_tile_absent : (rule : ℕ → TileTables → Option Disagreement) (t : ℕ) (c : CoverageTables) → tile_at c t ≡ None → in_tile (rule t) (tile_at c t) ≡ None
in_tile_absent rule t c e = rw e refl

-- no finding in the tiles: none in any
pub no_tile : (rule : ℕ → TileTables → Option Disagreement) (c : CoverageTables) → in_tiles rule c ≡ None → (t : ℕ) (T : TileTables) → tile_at c t ≡ Some T
    → t ≤ last_tile c → rule t T ≡ None
unfolding in_tiles
no_tile rule c none t T is last =
    sym (in_tile_at rule t c T is) ∙ over_none (λ t. in_tile (rule t) (tile_at c t)) 0 (last_tile c + 1) none t (omega arith) (omega arith)

-- a tile that isn't there, or in which a rule finds nothing, is passed
pub pass_at : (rule : ℕ → TileTables → Option Disagreement) (t : ℕ) (c : CoverageTables) (T : TileTables) → t < last_tile c + 1 → Some T ≡ tile_at c t → rule t T ≡ None
    → tiles_left rule (t + 1) c ≡ tiles_left rule t c
pass_at rule t c T h is none = pass_tile rule t c h (in_tile_at rule t c T (sym is) ∙ none)

pub pass_absent : (rule : ℕ → TileTables → Option Disagreement) (t : ℕ) (c : CoverageTables) → t < last_tile c + 1 → None ≡ tile_at c t → tiles_left rule (t + 1) c ≡ tiles_left rule t c
pass_absent rule t c h is = pass_tile rule t c h (in_tile_absent rule t c (sym is))

pub ruleset tile_rules = (all_tiles, pass_at, pass_absent, end_tiles)
