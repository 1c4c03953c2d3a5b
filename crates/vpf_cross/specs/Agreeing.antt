-- A library agrees: its numbers, its cycles, and its references across tiles (MIL-STD-2407, 5.2.3, cross-tile topology).
use Rattle.std.specs.Prelude.{◌≡◌, ◌≢◌, ℕ, zero, suc, true, false, length, Option, Some, None}
use Rattle.vpf_darts.specs.Darts.{tile_in, sign_in, flip}
use Rattle.vpf_prims.specs.Lists.{kth}
use Rattle.vpf_prims.specs.Numbering.{IsRowOf, IsNumbered}
use Rattle.vpf_prims.specs.Primitives.{Library, absent_entity, tile_entities, has_tables}
use Rattle.vpf_prims.specs.References.{id_of}
use Rattle.vpf_wing.specs.Links.{Beyond, DartLinks, links_of, local_next}
use Rattle.vpf_wing.specs.WellFormed.{HasLoops, HasCycles}
use Rattle.vpf_prims.specs.Libraries.{IsLibrary}
use Rattle.vpf_follow.specs.Following.{is_home, is_outside, follow, home_copy}
use Rattle.vpf_follow.specs.Sided.{HasSides, HasFollowers}
use Rattle.vpf_cross.specs.CarriedLines.{first_tile, node_carried, universe_carried}

-- e is a copy of d in the tile
pub record IsCopy (C : DartLinks) (t d e : ℕ) : Type 0 where
  pub has : C.has e ≡ true
  pub tile : tile_in e ≡ t
  pub home : home_copy C e ≡ home_copy C d

-- e is the copy in the tile of the first that has one among d, the dart that follows flip(d), and so on, after so many
abbrev pub IsFirstCopy : DartLinks → ℕ → ℕ → ℕ → ℕ → Type 0
IsFirstCopy C t zero d e = IsCopy C t d e
IsFirstCopy C t (suc k) d e = ((x : ℕ) → IsCopy C t d x → ⊥) × ((y : ℕ) × (follow C (flip d) ≡ Some y) × IsFirstCopy C t k y e)

-- the next of a dart in its tile is the copy there of the first that has one of the darts that follow it, round the node
pub record GoesOnHere (C : DartLinks) (d : ℕ) : Type 0 where
  pub followed : ℕ
  pub next : ℕ
  pub steps : ℕ
  pub follows : follow C d ≡ Some followed
  pub goes : local_next C d ≡ Some next
  pub first : IsFirstCopy C (tile_in d) steps followed next

-- an outside dart is of one edge with its home copy: flip, sign, mark and carried cells are the same
pub record HasHomes (C : DartLinks) : Type 0 where
  pub flips : (d : ℕ) → is_outside C d ≡ true → home_copy C (flip (home_copy C d)) ≡ flip d
  pub signs : (d : ℕ) → is_outside C d ≡ true → sign_in (home_copy C d) ≡ sign_in d
  pub marks : (d : ℕ) → is_outside C d ≡ true → C.mark d ≡ C.mark (home_copy C d)
  pub carried : (d : ℕ) → is_outside C d ≡ true → C.carried d ≡ C.carried (home_copy C d)

-- the tiles turn about their nodes as the whole coverage does
abbrev pub HasRounds : DartLinks → Type 0
HasRounds C = (d : ℕ) → C.has d ≡ true → GoesOnHere C d

-- a node carries the same cells wherever it is named, and so does the universe
pub record AreCarried (L : Library) : Type 0 where
  pub nodes : (d : ℕ) (p : Beyond) → (links_of L).has d ≡ true → ((links_of L).node d).out ≡ Some p → node_carried L (tile_in d) ((links_of L).node d).id ≡ node_carried L p.tile p.id
  pub universe : (t : ℕ) → has_tables L t ≡ true → universe_carried L t ≡ universe_carried L (first_tile L)

-- an entity node lies in a face of its tile
abbrev pub AreInhabited : Library → Type 0
AreInhabited L = (t n : ℕ) → IsRowOf (length (tile_entities L t)) n → id_of (kth (tile_entities L t) n absent_entity).containing_face ≢ 1

-- the tiles agree with each other
pub record AgreesAcross (L : Library) : Type 0 where
  pub sides : HasSides (links_of L)
  pub follows : HasFollowers (links_of L)
  pub homes : HasHomes (links_of L)
  pub rounds : HasRounds (links_of L)
  pub carried : AreCarried L
  pub inhabited : AreInhabited L

-- the rows of a library agree: their numbers, the loops and cycles of each tile, and the tiles with each other
pub record LibraryAgrees (L : Library) : Type 0 where
  pub library : IsLibrary L
  pub numbered : (t : ℕ) → has_tables L t ≡ true → IsNumbered L t
  pub loops : HasLoops (links_of L)
  pub cycles : (t : ℕ) → has_tables L t ≡ true → HasCycles L t
  pub across : L.is_tiled ≡ true → AgreesAcross L
