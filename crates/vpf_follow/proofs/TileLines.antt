-- A loop over the tiles of a coverage that stops at the first finding.
use Rattle.std.proofs.Common.{◌≡◌, ℕ, ◌+◌, ◌-◌, ◌≤◌, Option, Some, None, Err, refl, ap, sym, ◌∙◌, arith}
use Rattle.vpf_findings.specs.declared.errors.FindError.{FindError}
use Rattle.vpf_findings.specs.declared.errors.FindError.TheVariants as errors
use Rattle.vpf_findings.specs.Findings.{Disagreement, disagreement_of}
use Rattle.vpf_findings.specs.Inner.FirstLaws.{over_end, over_found, over_none, over_pass}
use Rattle.vpf_findings.specs.Firsts.{Tells, first_over}
use Rattle.vpf_prims.specs.Coverages.{CoverageTables, last_tile, tile_at}
use Rattle.vpf_prims.specs.Tables.{TileTables}
use Rattle.vpf_prims.specs.Libraries.{in_tile, in_tiles}

-- what is left to say of the tiles from t
abbrev pub from_tile : (ℕ → TileTables → Option Disagreement) → CoverageTables → ℕ → Option Disagreement
from_tile rule c t = first_over (λ t. in_tile (rule t) (tile_at c t)) t (last_tile c + 1 - t)

pub tiles_begin : (rule : ℕ → TileTables → Option Disagreement) (c : CoverageTables) → from_tile rule c 0 ≡ in_tiles rule c
unfolding in_tiles
tiles_begin rule c = let whole : last_tile c + 1 - 0 ≡ last_tile c + 1 = omega arith in rw whole refl

pub tiles_pass : (rule : ℕ → TileTables → Option Disagreement) (c : CoverageTables) (t : ℕ) → t ≤ last_tile c → in_tile (rule t) (tile_at c t) ≡ None
    → from_tile rule c t ≡ in_tiles rule c → from_tile rule c (t + 1) ≡ in_tiles rule c
tiles_pass rule c t h none left = over_pass (λ t. in_tile (rule t) (tile_at c t)) t (last_tile c + 1) (omega arith) none ∙ left

pub tiles_tell : (e : FindError) (rule : ℕ → TileTables → Option Disagreement) (c : CoverageTables) (t : ℕ) → t ≤ last_tile c
    → Tells {V = ℕ} (Err e) (in_tile (rule t) (tile_at c t)) → from_tile rule c t ≡ in_tiles rule c → Tells {V = ℕ} (Err e) (in_tiles rule c)
tiles_tell (errors.Finding f) rule c t h some left =
    over_found (λ t. in_tile (rule t) (tile_at c t)) t (last_tile c + 1) (disagreement_of f) (disagreement_of f) (in_tiles rule c) left (omega arith) some refl
tiles_tell errors.NoMemory rule c t h some left = tt

pub tiles_end : (rule : ℕ → TileTables → Option Disagreement) (c : CoverageTables) (t : ℕ) → last_tile c + 1 ≤ t
    → from_tile rule c t ≡ in_tiles rule c → in_tiles rule c ≡ None
tiles_end rule c t h left = sym left ∙ over_end (λ t. in_tile (rule t) (tile_at c t)) t (last_tile c + 1) h

-- what is so of the tiles where nothing is found in them
pub tiles_none : (rule : ℕ → TileTables → Option Disagreement) (c : CoverageTables) (t : ℕ) (T : TileTables) → t ≤ last_tile c → tile_at c t ≡ Some T
    → in_tiles rule c ≡ None → rule t T ≡ None
unfolding in_tiles
tiles_none rule c t T low is none =
    ap (in_tile (rule t)) (sym is) ∙ over_none (λ t. in_tile (rule t) (tile_at c t)) 0 (last_tile c + 1) none t (omega arith) (omega arith)
