-- The sides of the edges of a tiled coverage, and what follows its darts (MIL-STD-2407, 5.2.3, cross-tile topology).
use Rattle.std.specs.Prelude.{◌≡◌, ℕ, true, false, Some, None}
use Rattle.vpf_darts.specs.Darts.{flip}
use Rattle.vpf_wing.specs.Links.{DartLinks}
use Rattle.vpf_wing.specs.WellFormed.{HasLoops}
use Rattle.vpf_follow.specs.Following.{beyond_tile, is_inside, is_home, is_outside, follow}

-- the faces, wings and nodes of edges name tiles as they should
pub record HasSides (C : DartLinks) : Type 0 where
  -- each edge has a side in its tile
  pub one_inside : (d : ℕ) → C.has d ≡ true → is_inside C d ≡ false → is_inside C (flip d) ≡ true
  -- a loop has two faces
  pub loops : HasLoops C
  -- a dart inside its tile goes on there, and one of another tile's face goes on in that tile
  pub inside_plain : (d : ℕ) → C.has d ≡ true → is_inside C d ≡ true → (C.wing d).out ≡ None
  pub outside_part : (d : ℕ) → is_outside C d ≡ true → beyond_tile (C.wing d).out ≡ beyond_tile (C.face d).out
  -- a wing and the head node go on in one tile, or neither does
  pub same_part : (d : ℕ) → C.has d ≡ true → beyond_tile (C.node d).out ≡ beyond_tile (C.wing d).out

-- each dart is followed by a home dart, and no two home darts by the same
pub record HasFollowers (C : DartLinks) : Type 0 where
  pub follows : (d : ℕ) → C.has d ≡ true → (e : ℕ) × (follow C d ≡ Some e)
  pub follow_apart : (d e : ℕ) → is_home C d ≡ true → is_home C e ≡ true → follow C d ≡ follow C e → d ≡ e
