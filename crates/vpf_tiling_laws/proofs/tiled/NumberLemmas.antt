-- The edges of a tile by their numbers there.
use Rattle.std.proofs.Common.{◌≡◌, ℕ, false, refl, ap, ◌∙◌, inl, inr, arith, length}
use Rattle.std.proofs.lemmas.Bool.{cases_Bool, cases_eq, and_parts, or_from}
use Rattle.vpf_darts.specs.Darts.{code, edge_in, flip}
use Rattle.vpf_prims.specs.Primitives.{Primitives, untiled, absent_edge}
use Rattle.vpf_tiling.specs.Presence.{untiled_links, is_within, has_edge}
use Rattle.vpf_tiling.specs.Tiles.{tiled_edge}
use Rattle.vpf_tiling_laws.proofs.tiled.Parts.{EdgesByNumber}
use Rattle.vpf_wing.specs.Inner.DartLaws.{never_both, IsThere, has-there, flip-edge}
use Rattle.vpf_tiling.specs.Inner.PresenceLaws.{no_edge_zero}
use Rattle.vpf_tiling.specs.Inner.RankLaws.{row_of_number}

pub edges_by_number : EdgesByNumber
edges_by_number c plan t e h le =
    row_of_number (tiled_edge c plan t) (has_edge c plan t) (length c.edges) e absent_edge (no_edge_zero c plan t) h (elim (cases_eq e 0) [
      | inl z ↦ absurd (never_both (has_edge c plan t e) h (ap (has_edge c plan t) z ∙ no_edge_zero c plan t))
      | inr ne ↦ omega arith
    ]) le
