-- A loop over the edges of a tile that stops at the first finding.
use Rattle.std.proofs.Common.{◌≡◌, ℕ, ◌+◌, ◌-◌, ◌<◌, ◌≤◌, Option, Some, None, Err, length, refl, ap, sym, ◌∙◌, arith}
use Rattle.vpf_findings.specs.declared.errors.FindError.{FindError}
use Rattle.vpf_findings.specs.declared.errors.FindError.TheVariants as errors
use Rattle.vpf_findings.specs.Findings.{Disagreement, disagreement_of}
use Rattle.vpf_findings.specs.Inner.FirstLaws.{over_end, over_found, over_none, over_pass}
use Rattle.vpf_findings.specs.Firsts.{Tells, first_over}
use Rattle.vpf_prims.specs.Reading.{primitives_of}
use Rattle.vpf_prims.specs.Tables.{TileTables}
use Rattle.vpf_follow.specs.Libraries.{over_edges}

-- what is left to say of the edges after k
abbrev pub from_edge : (ℕ → Option Disagreement) → TileTables → ℕ → Option Disagreement
from_edge lines T k = first_over (λ i. lines (i + 1)) k (length (primitives_of T.tables).edges - k)

pub edges_begin : (lines : ℕ → Option Disagreement) (T : TileTables) → from_edge lines T 0 ≡ over_edges lines T
unfolding over_edges
edges_begin lines T = let whole : length (primitives_of T.tables).edges - 0 ≡ length (primitives_of T.tables).edges = omega arith in rw whole refl

pub edges_pass : (lines : ℕ → Option Disagreement) (T : TileTables) (k : ℕ) → k < length (primitives_of T.tables).edges → lines (k + 1) ≡ None
    → from_edge lines T k ≡ over_edges lines T → from_edge lines T (k + 1) ≡ over_edges lines T
edges_pass lines T k h none left = over_pass (λ i. lines (i + 1)) k (length (primitives_of T.tables).edges) h none ∙ left

pub edges_stop : (lines : ℕ → Option Disagreement) (T : TileTables) (k : ℕ) (f : Disagreement) → k < length (primitives_of T.tables).edges
    → lines (k + 1) ≡ Some f
    → from_edge lines T k ≡ over_edges lines T → over_edges lines T ≡ Some f
edges_stop lines T k f h some left = over_found (λ i. lines (i + 1)) k (length (primitives_of T.tables).edges) f f (over_edges lines T) left h some refl

pub edges_end : (lines : ℕ → Option Disagreement) (T : TileTables) (k : ℕ) → length (primitives_of T.tables).edges ≤ k
    → from_edge lines T k ≡ over_edges lines T → over_edges lines T ≡ None
edges_end lines T k h left = sym left ∙ over_end (λ i. lines (i + 1)) k (length (primitives_of T.tables).edges) h

-- the same of a call that may want memory
pub edges_tell : (e : FindError) (lines : ℕ → Option Disagreement) (T : TileTables) (k : ℕ) → k < length (primitives_of T.tables).edges
    → Tells {V = ℕ} (Err e) (lines (k + 1)) → from_edge lines T k ≡ over_edges lines T → Tells {V = ℕ} (Err e) (over_edges lines T)
edges_tell (errors.Finding f) lines T k h some left = edges_stop lines T k (disagreement_of f) h some left
edges_tell errors.NoMemory lines T k h some left = tt

-- what is so of the edges where nothing is found in them
pub edges_none : (lines : ℕ → Option Disagreement) (T : TileTables) (k : ℕ) → 1 ≤ k → k ≤ length (primitives_of T.tables).edges → over_edges lines T ≡ None
    → lines k ≡ None
unfolding over_edges
edges_none lines T k low high none =
    let back : (k - 1) + 1 ≡ k = omega arith in
    ap lines (sym back) ∙ over_none (λ i. lines (i + 1)) 0 (length (primitives_of T.tables).edges) none (k - 1) (omega arith) (omega arith)
