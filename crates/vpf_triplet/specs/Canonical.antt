-- The canonical spelling of a triplet id (MIL-STD-2407, 5.4, triplet id field type): the shortest.
use Rattle.std.specs.Prelude.{ℕ, List, Option, Some, None, IsTrue, nat_lt, if◌then◌else◌}
use Rattle.vpf_base.specs.declared.orders.Order.{Order}
use Rattle.vpf_triplet.specs.declared.sizes.Size.{Size}
use Rattle.vpf_triplet.specs.declared.sizes.Size.TheVariants.{Absent, One, Two, Four}
use Rattle.vpf_triplet.specs.declared.triplets.Triplet.{Triplet}
use Rattle.vpf_triplet.specs.Reading.{is_small}
use Rattle.vpf_triplet.specs.Spelling.{spelling}

-- the least size that holds a part
abbrev pub least : Option ℕ → Size
least None = Absent
least (Some n) = if nat_lt n 256 then One else if nat_lt n 65536 then Two else Four

-- the spelling in which each part has the least size that holds it
unfoldable pub canonical : Order → Triplet → List ℕ
canonical o t = spelling o (least t.id) (least t.tile) (least t.ext) t

-- each part that is there is below 2^31, as every part that is read is
pub record HasSmallParts (t : Triplet) : Type 0 where
  pub id : IsTrue (is_small t.id)
  pub tile : IsTrue (is_small t.tile)
  pub ext : IsTrue (is_small t.ext)
