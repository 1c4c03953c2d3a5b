-- How the boundary of a face goes on behind a dart, from tile to tile (MIL-STD-2407, 5.2.3, cross-tile topology).
use Rattle.std.specs.Prelude.{◌≡◌, ℕ, ◌<◌, ◌^◌, true, length}
use Rattle.vpf_darts.specs.Darts.{dart_code}
use Rattle.vpf_prims.specs.Numbering.{IsRowOf}
use Rattle.vpf_prims.specs.Primitives.{Primitives}
use Rattle.vpf_tiling.specs.Presence.{home, is_present, next_of}
use Rattle.vpf_cutting.specs.declared.rows.Onward.{Onward}

-- this is the next of a dart in the coverage, and its home tile, where it is present
pub record IsOnward (c : Primitives) (plan : ℕ → ℕ) (d : ℕ) (onward : Onward) : Type 0 where
  pub next : dart_code onward.next ≡ next_of c d
  pub row : IsRowOf (length c.edges) onward.next.edge
  pub home : onward.home ≡ home c plan (dart_code onward.next)
  pub there : is_present c plan onward.home (dart_code onward.next) ≡ true
  pub few : onward.home < 2 ^ 31
